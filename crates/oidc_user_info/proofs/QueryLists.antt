-- Texts in a row, and pairs after the query of a URL.
use Rattle.std.proofs.Common.{◌≡◌, ℕ, ◌<◌, length, All, List, [], ◌∷◌, ◌++◌, map, take, None, Some, refl, sym, ap, ◌∙◌, subst, arith}
use Rattle.std.specs.Prelude.{unwrap_or, codes}
use Rattle.std.specs.Borrow.{Bor}
use Rattle.std.specs.List.{join_by, flat_map}
use Rattle.std.proofs.lemmas.List.{map-append, length-map, take-map, take_at}
use Rattle.std.proofs.lemmas.List.Elements.{All-nil, All-cons, All-append}
use Rattle.form_urlencoded.specs.Form.{extend_pairs, pair_text}
use Rattle.url.specs.Parts.{Parts, IsValid}
use Rattle.url.specs.Setters.{append_query_pairs, set_query}
use Rattle.url.proofs.ValidLemmas.{with_own_tail}
use Rattle.oidc_pairs.specs.Pairs.{IsTextPair}
use Rattle.oidc_pairs.specs.Form.{form}
use Rattle.oidc_pairs.proofs.Theorems.{extend_pairs-on_empty, extend_pairs-after_text}
use Rattle.oidc_user_info.specs.QueryPairs.{spaced, joined, kept_query, extended}

flat_map-map : {X A : Type 0} → (sep : List A) (f : X → List A) (xs : List X)
    → flat_map (λ x. sep ++ f x) xs ≡ flat_map (λ text. sep ++ text) (map f xs)
flat_map-map sep f [] = refl
flat_map-map sep f (x ∷ xs) = ap (λ later. (sep ++ f x) ++ later) (flat_map-map sep f xs)

-- texts that are joined are those of a list of texts
pub join_by_spaced : {X : Type 0} → (f : X → List ℕ) (xs : List X) → join_by f (codes " ") xs ≡ spaced (map f xs)
join_by_spaced f [] = refl
join_by_spaced f (x ∷ xs) = ap (λ later. f x ++ later) (flat_map-map (codes " ") f xs)

-- pairs, one of them at least, after a query
extend_pairs_joined : (query : List ℕ) (pair : List ℕ × List ℕ) (list : List (List ℕ × List ℕ))
    → extend_pairs query (pair ∷ list) ≡ joined query (form (pair ∷ list))
extend_pairs_joined [] pair list = extend_pairs-on_empty (pair ∷ list)
extend_pairs_joined (b ∷ query) pair list = extend_pairs-after_text (b ∷ query) pair list (omega arith)

pub append_query_pairs_extended : {X : Type 0} → (url : Parts) (f : X → List ℕ × List ℕ) (pairs : List X) → 0 < length pairs
    → append_query_pairs url (map f pairs) ≡ extended url (map f pairs)
append_query_pairs_extended url f [] some = absurd (omega (arith, some))
append_query_pairs_extended url f (pair ∷ later) some =
    λ i. record url { query = Some (extend_pairs_joined (unwrap_or url.query []) (f pair) (map f later) i) }

-- without its query, where that is empty
pub without_query_extended : (url : Parts) → IsValid url → url.query ≡ Some [] → set_query url None ≡ extended url []
without_query_extended url valid empty =
    ap (λ (u : Parts). record u { query = None }) (with_own_tail url valid)
    ∙ ap (λ query. record url { query = kept_query query }) (sym empty)

abbrev Texts : List (Bor (List ℕ) × Bor (List ℕ)) → Type 0
Texts pairs = All IsTextPair (map pair_text pairs)

-- the same pairs
pub kept_texts : (old new : List (Bor (List ℕ) × Bor (List ℕ))) → new ≡ old → Texts old → Texts new
kept_texts old new same were = subst Texts (sym same) were

-- one pair more
pub more_texts : (old new : List (Bor (List ℕ) × Bor (List ℕ))) (pair : Bor (List ℕ) × Bor (List ℕ))
    → new ≡ old ++ pair ∷ [] → Texts old → IsTextPair (pair_text pair) → Texts new
more_texts old new pair grown were is =
    subst (All IsTextPair) (sym (ap (map pair_text) grown ∙ map-append pair_text old (pair ∷ [])))
    (All-append IsTextPair (map pair_text old) (pair_text pair ∷ []) were
    (All-cons IsTextPair (pair_text pair) [] is (All-nil IsTextPair)))

-- ---- lists that go back to what they were

-- what was added behind a list, taken off again
pub added_take : {A : Type 0} (old added now : List A) → now ≡ old ++ added → take (length old) now ≡ old
added_take old added now is = ap (take (length old)) is ∙ take_at old added (length old) refl

pub truncated : {X A : Type 0} (f : X → A) (old now : List X) → take (length (map f old)) (map f now) ≡ map f old → map f (take (length old) now) ≡ map f old
truncated f old now is = sym (take-map f (length old) now) ∙ ap (λ n. take n (map f now)) (sym (length-map old f)) ∙ is
