use Rattle.std.proofs.Common.{length}
use Rattle.oidc_provider.proofs.authorization.+registered.Given as goal

abbrev pub decreases-registered : goal.decreases-registered
decreases-registered l = length l.registrations.now
