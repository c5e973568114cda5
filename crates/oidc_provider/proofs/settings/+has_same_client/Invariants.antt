use Rattle.std.proofs.Common.{length}
use Rattle.oidc_provider.proofs.settings.+has_same_client.Given as goal

abbrev pub decreases-has_same_client : goal.decreases-has_same_client
decreases-has_same_client l = length l.registrations.now
