-- The texts of a drill: its URLs, which the URL Standard takes, and its numbers.
use Rattle.std.proofs.Common.{◌≡◌, ℕ, ◌-◌, List, [], ◌∷◌, ◌++◌, length, String, Option, Some, arith, Result, Ok, Err, IfOk, refl, sym, ap, subst, ◌∙◌}
use Rattle.std.proofs.Common.{rules}
use Rattle.std.specs.Prelude.{codes, decimal, replicate, IsSome, unwrap_or}
use Rattle.std.specs.Fmt.{char_count}
use Rattle.std.specs.String.{string_bytes}
use Rattle.std.proofs.lemmas.List.{append-nil}
use Rattle.oidc_types.specs.{TextAndUrl}
use Rattle.url.proofs.OnLiterals.{url_on_literals}
use Rattle.oidc_cli.specs.Values.{url_of_text}
use Rattle.oidc_cli.specs.Drill.{issuer, client_line, verifier}

-- ---- the URLs of the drill, which the URL Standard takes

pub issuer_taken : url_of_text (codes "https://example") ≡ Some issuer
unfolding url_on_literals
issuer_taken = refl

pub auth_taken : url_of_text (codes "https://example/authorize") ≡ Some client_line.provider.auth
unfolding url_on_literals
auth_taken = refl

pub token_taken : url_of_text (codes "https://example/token") ≡ Some client_line.provider.token
unfolding url_on_literals
token_taken = refl

pub user_info_taken : url_of_text (codes "https://example/userinfo") ≡ client_line.provider.user_info
unfolding url_on_literals
user_info_taken = refl

pub some_taken : {A : Type 0} (found : Option A) (x : A) → found ≡ Some x → IsSome found
some_taken found x e = subst IsSome (sym e) (search rules)

same_some : {A : Type 0} (x y : A) → Some x ≡ Some y → x ≡ y
same_some x y e = ap (λ o. unwrap_or o x) e

pub url_taken : {E : Type 0} (r : Result TextAndUrl E) (text : List ℕ) (u : TextAndUrl) → url_of_text text ≡ Some u
    → IfOk r (λ url. url_of_text text ≡ Some url) → IfOk r (λ url. url ≡ u)
url_taken (Ok url) text u is made = same_some url u (sym made ∙ is)
url_taken (Err e) text u is made = tt

-- the URL that was made of a text, as it came
pub came_as : {E : Type 0} (r : Result TextAndUrl E) (text : List ℕ) (made u : TextAndUrl) → r ≡ Ok made → url_of_text text ≡ Some u
    → IfOk r (λ url. url_of_text text ≡ Some url) → made ≡ u
came_as r text made u came is ensured =
    same_some made u (sym (subst (λ x. IfOk x (λ url. url_of_text text ≡ Some url)) came ensured) ∙ is)

-- ---- a number in 42 digits, as it is laid out

nothing_off : (n : ℕ) → n - 0 - char_count [] ≡ n
unfolding char_count
nothing_off n = omega arith

pub laid_out : {Y E : Type 0} (r : Result (String Y) E) (i : ℕ)
    → IfOk r (λ s. string_bytes s ≡ 118 ∷ (replicate (42 - length (decimal i) - 0 - char_count []) 48 ++ (decimal i ++ [])))
    → IfOk r (λ s. string_bytes s ≡ verifier i)
laid_out (Ok s) i made =
    made ∙ ap (λ n. 118 ∷ (replicate n 48 ++ (decimal i ++ []))) (nothing_off (42 - length (decimal i)))
    ∙ ap (λ ds. 118 ∷ (replicate (42 - length (decimal i)) 48 ++ ds)) (append-nil (decimal i))
laid_out (Err e) i made = tt
