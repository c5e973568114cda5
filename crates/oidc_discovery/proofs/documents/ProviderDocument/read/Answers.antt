use Rattle.std.proofs.Common.{sym}
use Rattle.oidc_discovery.proofs.Taken.{checked_taken}
use Rattle.oidc_discovery.proofs.documents.ProviderDocument.read.Goals as goal

pub returns-in-Ok-clause-taken : goal.returns-in-Ok-clause-taken
returns-in-Ok-clause-taken c = checked_taken _ _ (sym c.in-Ok.ensures)
