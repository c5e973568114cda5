use Rattle.std.proofs.Common.{ap}
use Rattle.oidc_readers.proofs.Theorems.{kept_by}
use Rattle.oidc_tokens.proofs.id_token.fields.IdTokenSlotMemberReader.take.Goals as goal

pub returns : goal.returns
returns g c = λ before start. kept_by _ _ _ _ (λ kept i. record { id_token = kept i }) (c.take_under.ensures before (ap (λ r. r.id_token) start))
