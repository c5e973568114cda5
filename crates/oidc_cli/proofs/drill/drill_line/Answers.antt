use Rattle.std.proofs.Common.{◌≡◌, ℕ, List, IfOk, ap, subst, ◌∙◌}
use Rattle.std.specs.Prelude.{codes}
use Rattle.std.specs.String.{string_bytes}
use Rattle.oidc_cli.specs.Drill.{counted}
use Rattle.oidc_cli.proofs.drill.drill_line.Goals as goal

-- what follows a name and its number
behind : (name : List ℕ) (count : ℕ) (x y : List ℕ) → x ≡ y → counted name count x ≡ counted name count y
behind name count x y e = ap (counted name count) e

pub returns : goal.returns
returns c =
    let t = c.args.drilled.tally in
    let left = c.as_str.ensures.value ∙ c.in_ok-left.ensures in
    let sent = c.as_str-2.ensures.value ∙ c.in_ok-sent.ensures ∙ behind (codes " sent=") t.sent _ _ left in
    let repeated = c.as_str-3.ensures.value ∙ c.in_ok-repeated.ensures ∙ behind (codes " repeated=") t.repeated _ _ sent in
    let signed = c.as_str-4.ensures.value ∙ c.in_ok-signed.ensures ∙ behind (codes " signed=") t.signed _ _ repeated in
    let begun = c.as_str-5.ensures.value ∙ c.in_ok-begun.ensures ∙ behind (codes " begun=") t.begun _ _ signed in
    let all = behind (codes "drill ") c.args.count _ _ begun in
    subst (λ y. IfOk c.counted-6.result (λ text. string_bytes text ≡ y)) all c.counted-6.ensures
