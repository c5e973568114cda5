-- An answer by its body: refused for what refuses the body, or read.
use Rattle.std.proofs.Common.{◌≡◌, ℕ, List, Bool, Result, Ok, Err, sym, ap, subst, ◌∙◌}
use Rattle.oidc_oauth2.specs.Messages.{SeenResponse}
use Rattle.oidc_discovery.specs.declared.errors.AnswerError.{AnswerError}
use Rattle.oidc_discovery.specs.declared.errors.AnswerError.TheVariants.{Refused}
use Rattle.oidc_discovery.specs.Answers.{IsJudged, body_in, body_of_type, is_of_type}

pub body_found : {E : Type 0} (types : List (List ℕ)) (r : SeenResponse) (right : Bool)
    (found : Result (List ℕ) (AnswerError E)) → right ≡ is_of_type types r → found ≡ body_of_type right r
    → body_in types r ≡ found
unfolding body_in
body_found types r right found e is = ap (λ test. body_of_type test r) (sym e) ∙ sym is

module _ {V E : Type 0} (Reads : List ℕ → Result V E → Type 0) (body : Result (List ℕ) (AnswerError E)) where
  pub judged_refusal : (answer : Result V (AnswerError E)) (error : AnswerError E) → body ≡ Err error
      → answer ≡ Err error → IsJudged Reads body answer
  judged_refusal answer error is same = subst (λ b. IsJudged Reads b answer) (sym is) same

  pub judged_value : (text : List ℕ) (value : V) → body ≡ Ok text → Reads text (Ok value)
      → IsJudged Reads body (Ok value)
  judged_value text value is read = subst (λ b. IsJudged Reads b (Ok value)) (sym is) read

  pub judged_error : (text : List ℕ) (error : E) → body ≡ Ok text → Reads text (Err error)
      → IsJudged Reads body (Err (Refused error))
  judged_error text error is read = subst (λ b. IsJudged Reads b (Err (Refused error))) (sym is) read
