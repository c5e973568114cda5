use Rattle.oidc_key_sets.proofs.ReadAs.{only_read}
use Rattle.oidc_key_sets.proofs.key_set.PublishedKeySet.read.Goals as goal

pub returns-clause-caused : goal.returns-clause-caused
returns-clause-caused c = λ meant said. only_read _ _ _ c.read_text.ensures said
