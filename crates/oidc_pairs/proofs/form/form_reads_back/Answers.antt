use Rattle.oidc_pairs.proofs.Theorems.{pairs-form}
use Rattle.oidc_pairs.proofs.form.form_reads_back.Goals as goal

pub returns : goal.returns
returns c = pairs-form
