-- The values that the query of an extended URL has for a name.
use Rattle.std.proofs.Common.{◌≡◌, ℕ, Bool, true, false, cond, List, [], ◌∷◌, ◌++◌, map, All, Option, None, Some, refl, sym, ap, ◌∙◌, append_assoc}
use Rattle.std.specs.Prelude.{◌==◌, filter}
use Rattle.std.specs.Str.{bytes_eq}
use Rattle.std.proofs.lemmas.Bool.{cond-true, cond-false, eq-eqb}
use Rattle.std.proofs.lemmas.List.{map-append}
use Rattle.std.proofs.lemmas.List.Elements.{filter-append}
use Rattle.form_urlencoded.specs.Form.{onto_first, split, split_pair, is_nonempty, raw_pairs}
use Rattle.form_urlencoded.proofs.FormLemmas.{raw_pairs-nil}
use Rattle.oidc_pairs.specs.Pairs.{pairs, text_of, is_named, values_in, IsTextPair}
use Rattle.oidc_pairs.specs.Form.{form}
use Rattle.oidc_pairs.proofs.Theorems.{pairs-form}
use Rattle.oidc_oauth2.specs.ClientAuth.{pair_if}
use Rattle.oidc_user_info.specs.QueryPairs.{joined, given_pairs}
use Rattle.oidc_client.specs.Authorization.{at_most_one}

-- ---- pieces

abbrev Pieces : Type 0
Pieces = List (List ℕ)

abbrev IsSplit : Pieces → Type 0
IsSplit pieces = (first : List ℕ) × (later : Pieces) × (pieces ≡ first ∷ later)

some_step : (same : Bool) (b : ℕ) (pieces : Pieces) → IsSplit pieces → IsSplit (cond same ([] ∷ pieces) (onto_first b pieces))
some_step true b pieces found = ([], pieces, refl)
some_step false b pieces found = (b ∷ found.0, found.1, ap (onto_first b) found.2)

-- a text has a first piece
some_piece : (s : ℕ) (bs : List ℕ) → IsSplit (split s bs)
unfolding split
some_piece s [] = ([], [], refl)
some_piece s (b ∷ bs) = some_step (b == s) b (split s bs) (some_piece s bs)

append_step : (same : Bool) (b : ℕ) (whole front later : Pieces) → whole ≡ front ++ later → IsSplit front
    → cond same ([] ∷ whole) (onto_first b whole) ≡ cond same ([] ∷ front) (onto_first b front) ++ later
append_step true b whole front later is found = ap (λ pieces. [] ∷ pieces) is
append_step false b whole front later is found =
    ap (onto_first b) (is ∙ ap (λ pieces. pieces ++ later) found.2)
    ∙ ap (λ pieces. onto_first b pieces ++ later) (sym found.2)

-- a text that stands behind another one and a separator is cut by itself
split-append : (s : ℕ) (xs ys : List ℕ) → split s (xs ++ s ∷ ys) ≡ split s xs ++ split s ys
unfolding split
split-append s [] ys = cond-true _ _ _ (eq-eqb s s refl)
split-append s (x ∷ xs) ys =
    append_step (x == s) x (split s (xs ++ s ∷ ys)) (split s xs) (split s ys) (split-append s xs ys) (some_piece s xs)

raw_pairs-append : (xs ys : List ℕ) → raw_pairs (xs ++ 38 ∷ ys) ≡ raw_pairs xs ++ raw_pairs ys
unfolding raw_pairs
raw_pairs-append xs ys =
    ap (λ pieces. map split_pair (filter is_nonempty pieces)) (split-append 38 xs ys)
    ∙ ap (map split_pair) (filter-append is_nonempty (split 38 xs) (split 38 ys))
    ∙ map-append split_pair (filter is_nonempty (split 38 xs)) (filter is_nonempty (split 38 ys))

abbrev text_pair : List ℕ × List ℕ → List ℕ × List ℕ
text_pair p = (text_of p.0, text_of p.1)

pairs-append : (xs ys : List ℕ) → pairs (xs ++ 38 ∷ ys) ≡ pairs xs ++ pairs ys
unfolding pairs
pairs-append xs ys = ap (map text_pair) (raw_pairs-append xs ys) ∙ map-append text_pair (raw_pairs xs) (raw_pairs ys)

pairs-nil : pairs [] ≡ []
unfolding pairs
pairs-nil = ap (map text_pair) raw_pairs-nil

-- the pairs of a query with the form text of pairs after it
pub pairs_joined : (query : List ℕ) (list : List (List ℕ × List ℕ)) → All IsTextPair list
    → pairs (joined query (form list)) ≡ pairs query ++ list
pairs_joined [] list texts = pairs-form list texts ∙ ap (λ front. front ++ list) (sym pairs-nil)
pairs_joined (b ∷ query) list texts =
    ap pairs (append_assoc (b ∷ query) (38 ∷ []) (form list))
    ∙ pairs-append (b ∷ query) (form list)
    ∙ ap (λ later. pairs (b ∷ query) ++ later) (pairs-form list texts)

-- ---- values

pub values_in_append : (xs ys : List (List ℕ × List ℕ)) (name : List ℕ)
    → values_in (xs ++ ys) name ≡ values_in xs name ++ values_in ys name
values_in_append xs ys name =
    ap (map (λ p. p.1)) (filter-append (is_named name) xs ys)
    ∙ map-append (λ p. p.1) (filter (is_named name) xs) (filter (is_named name) ys)

-- a pair with another name is passed by
pub pass_by : (name given : List ℕ) (value : Option (List ℕ)) (rest : List (List ℕ × List ℕ)) → bytes_eq given name ≡ false
    → values_in (pair_if given value ++ rest) name ≡ values_in rest name
pass_by name given None rest other = refl
pass_by name given (Some value) rest other = ap (map (λ p. p.1)) (cond-false _ _ _ other)

-- a pair with this name, before pairs that have none of it
pub one_here : (name given : List ℕ) (value : Option (List ℕ)) (rest : List (List ℕ × List ℕ)) → bytes_eq given name ≡ true
    → values_in rest name ≡ [] → values_in (pair_if given value ++ rest) name ≡ at_most_one value
one_here name given None rest same none = none
one_here name given (Some value) rest same none =
    ap (map (λ p. p.1)) (cond-true _ _ _ same) ∙ ap (λ later. value ∷ later) none

-- none of the names is this one
abbrev pub AllOthers : List ℕ → List (List ℕ × Option (List ℕ)) → Type 0
AllOthers name [] = Unit {0}
AllOthers name (given ∷ later) = (bytes_eq given.0 name ≡ false) × AllOthers name later

pub none_among : (name : List ℕ) (list : List (List ℕ × Option (List ℕ))) → AllOthers name list → values_in (given_pairs list) name ≡ []
none_among name [] others = refl
none_among name (given ∷ later) others =
    pass_by name given.0 given.1 (given_pairs later) others.0 ∙ none_among name later others.1
