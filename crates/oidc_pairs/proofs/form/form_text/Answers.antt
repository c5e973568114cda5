use Rattle.std.proofs.Common.{arith}
use Rattle.std.proofs.lemmas.Grind.{common_steps}
use Rattle.oidc_pairs.proofs.Theorems.{extend_pairs-on_empty}
use Rattle.oidc_pairs.proofs.form.form_text.Goals as goal

pub returns : goal.returns
returns c = grind (arith, common_steps, extend_pairs-on_empty)
