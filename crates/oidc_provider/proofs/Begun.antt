-- What the URL of a begin says, where a provider allows it.
use Rattle.std.proofs.Common.{◌≡◌, ℕ, List, [], ◌∷◌, ◌++◌, true, Option, None, Some, refl, ap, sym, ◌∙◌}
use Rattle.std.specs.Prelude.{option_map, unwrap_or}
use Rattle.std.specs.Cmp.Lexicographic.{bytes_decides}
use Rattle.std.proofs.lemmas.Bool.{false≢true}
use Rattle.url.specs.Parts.{Parts}
use Rattle.oidc_pairs.specs.Pairs.{pairs, only_of}
use Rattle.oidc_types.specs.{TextAndUrl}
use Rattle.oidc_client.specs.Authorization.{query_values, at_most_one}
use Rattle.oidc_provider.specs.Values.{only, is_it}

pub same_Some : {A : Type 0} (x y : A) → ◌≡◌ {A = Option A} (Some x) (Some y) → x ≡ y
same_Some x y e = cc

-- the one value that a URL's query has for a name
pub one_value : (url : Parts) (name value : List ℕ) → query_values url name ≡ value ∷ [] → only (pairs (unwrap_or url.query [])) name ≡ Some value
one_value url name value is = ap only_of is

-- the value of a pair that is there is the one value
pub one_of_pair : (before after : List (List ℕ)) (x y : List ℕ) → only_of (before ++ x ∷ after) ≡ Some y → x ≡ y
one_of_pair [] [] x y is = same_Some x y is
one_of_pair [] (z ∷ after) x y is = absurd cc
one_of_pair (z ∷ []) after x y is = absurd cc
one_of_pair (z ∷ w ∷ before) after x y is = absurd cc

-- the redirect of a request whose URL names this text
pub redirect_of : (own : Option TextAndUrl) (found : Option (List ℕ)) (text : List ℕ) → found ≡ only_of (at_most_one (option_map (λ u. u.text) own)) → is_it found text ≡ true
    → (u : TextAndUrl) × (own ≡ Some u) × (u.text ≡ text)
redirect_of None found text is says = absurd (false≢true (ap (λ (f : Option (List ℕ)). is_it f text) (sym is) ∙ says))
redirect_of (Some u) found text is says = (u, refl, (bytes_decides u.text text).0 (ap (λ (f : Option (List ℕ)). is_it f text) (sym is) ∙ says))

-- the one value of a redirect that a request has
pub at_most_of : (own : Option TextAndUrl) (u : TextAndUrl) → own ≡ Some u → at_most_one (option_map (λ x. x.text) own) ≡ u.text ∷ []
at_most_of own u is = ap (λ (o : Option TextAndUrl). at_most_one (option_map (λ x. x.text) o)) is
