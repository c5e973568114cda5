use Rattle.std.proofs.Common.{length}
use Rattle.oidc_provider.proofs.answers.+is_authenticated.Given as goal

abbrev pub decreases-is_authenticated : goal.decreases-is_authenticated
decreases-is_authenticated l = length l.registrations.now
