use Rattle.oidc_pairs.proofs.FormTexts.{IsWritten_empty, pairs_empty}
use Rattle.oidc_pairs.proofs.form.FormText.over.Goals as goal

pub invariant_of-result : goal.invariant_of-result
invariant_of-result c = IsWritten_empty _ c.requires

pub returns : goal.returns
returns c = pairs_empty _ c.requires
