use Rattle.std.proofs.Common.{length}
use Rattle.oidc_provider.proofs.answers.+is_of_client.Given as goal

abbrev pub decreases-is_of_client : goal.decreases-is_of_client
decreases-is_of_client l = length l.registrations.now
