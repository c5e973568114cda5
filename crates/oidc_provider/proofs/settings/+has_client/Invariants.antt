use Rattle.std.proofs.Common.{length}
use Rattle.oidc_provider.proofs.settings.+has_client.Given as goal

abbrev pub decreases-has_client : goal.decreases-has_client
decreases-has_client l = length l.registrations.now
