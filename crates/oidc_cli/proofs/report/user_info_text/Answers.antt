use Rattle.std.proofs.Common.{◌≡◌, ap, ◌∙◌}
use Rattle.std.specs.Prelude.{Result, Ok, Err, IfOk}
use Rattle.serde_json.specs.Data.{string}
use Rattle.oidc_members.specs.Write.{any_float}
use Rattle.oidc_claims.specs.Others.{list_of}
use Rattle.oidc_user_info.specs.UserInfoClaims.{user_info_members}
use Rattle.oidc_cli.proofs.report.user_info_text.Goals as goal

-- what holds of a result where a fact does
if_ok : {A E : Type 0} (r : Result A E) (P : Type 0) (Q : A → Type 0) → IfOk r (λ x. P → Q x) → P → IfOk r Q
if_ok (Ok x) P Q h p = h p
if_ok (Err e) P Q h p = tt

pub returns : goal.returns
returns c = λ free.
    let members : c.as_slice.result.now ≡ user_info_members list_of string c.args.found.now = c.as_slice.ensures.value ∙ c.in_ok-members.ensures.members in
    rw members at (if_ok _ _ _ c.write_object.ensures (ap any_float c.as_slice.ensures.value ∙ c.in_ok-members.ensures.no_float free))
