use Rattle.std.proofs.Common.{subst}
use Rattle.std.specs.Str.{IsUtf8}
use Rattle.oidc_user_info.proofs.Texts.{no_text_row, text_gives}
use Rattle.oidc_user_info.proofs.answers.of_token.Goals as goal

pub returns-in-Err : goal.returns-in-Err
returns-in-Err g c = no_text_row _ _ _ c.args.body.now (subst (λ b. IsUtf8 b → ⊥) c.as_slice.ensures.bytes c.in-Err.ensures.cases.0)

pub returns-in-Ok : goal.returns-in-Ok
returns-in-Ok g c = text_gives _ _ _ c.args.body.now c.in-Ok.text.now c.as_slice.result.now c.in-Ok.ensures.cases.0 c.as_slice.ensures.bytes c.in-Ok.ensures.cases.1 c.of_text.result c.of_text.ensures
