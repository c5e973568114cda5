-- Values of a name, place by place.
use Rattle.std.proofs.Common.{◌≡◌, ℕ, suc, ◌+◌, ◌<◌, true, List, [], ◌∷◌, ◌++◌, Option, None, Some, take, drop, length, get_or, map, sym, ap, ◌∙◌, add-one, drop-cons, take-append-drop}
use Rattle.std.specs.Prelude.{filter, is_some}
use Rattle.std.proofs.lemmas.Bool.{cond-true, false≢true}
use Rattle.std.proofs.lemmas.List.{map-append}
use Rattle.std.proofs.lemmas.List.Elements.{filter-append}
use Rattle.std.specs.Borrow.{Bor}
use Rattle.std.specs.Option.{option_copied}
use Rattle.std.specs.Str.{bytes_eq}
use Rattle.oidc_pairs.specs.Pairs.{is_named, values_in, first_of, only_of}

-- the list of what there is
abbrev pub list_of : {A : Type 0} → Option A → List A
list_of None = []
list_of (Some x) = x ∷ []

values_in-append : (xs ys : List (List ℕ × List ℕ)) (name : List ℕ)
    → values_in (xs ++ ys) name ≡ values_in xs name ++ values_in ys name
values_in-append xs ys name =
    ap (map (λ p. p.1)) (filter-append (is_named name) xs ys) ∙ map-append (λ p. p.1) (filter (is_named name) xs) (filter (is_named name) ys)

-- a pair with the name gives the next value
pub values_at : (list : List (List ℕ × List ℕ)) (i : ℕ) (name : List ℕ) (pair : List ℕ × List ℕ) → i < length list
    → pair ≡ get_or list i pair → bytes_eq pair.0 name ≡ true
    → values_in list name ≡ values_in (take i list) name ++ pair.1 ∷ values_in (drop (i + 1) list) name
values_at list i name pair within is named =
    let rest : drop i list ≡ pair ∷ drop (i + 1) list = rw add-one (drop-cons list i pair within ∙ ap (λ p. p ∷ drop (suc i) list) (sym is)) in
    ap (λ l. values_in l name) (sym (take-append-drop i list))
    ∙ values_in-append (take i list) (drop i list) name
    ∙ ap (λ l. values_in (take i list) name ++ values_in l name) rest
    ∙ ap (λ l. values_in (take i list) name ++ map (λ p. p.1) l) (cond-true _ _ _ named)

-- the first pair with the name
pub first_found : (list : List (List ℕ × List ℕ)) (i : ℕ) (name : List ℕ) (pair : List ℕ × List ℕ) → i < length list
    → pair ≡ get_or list i pair → bytes_eq pair.0 name ≡ true → values_in (take i list) name ≡ []
    → Some pair.1 ≡ first_of (values_in list name)
first_found list i name pair within is named none =
    sym (ap first_of (values_at list i name pair within is named ∙ ap (λ l. l ++ pair.1 ∷ values_in (drop (i + 1) list) name) none))

-- a second pair with the name
pub second_found : (list : List (List ℕ × List ℕ)) (i : ℕ) (name : List ℕ) (pair : List ℕ × List ℕ) (found : Option (Bor (List ℕ))) → i < length list
    → pair ≡ get_or list i pair → bytes_eq pair.0 name ≡ true → values_in (take i list) name ≡ list_of (option_copied found) → is_some found ≡ true
    → None ≡ only_of (values_in list name)
second_found list i name pair None within is named one some = absurd (false≢true some)
second_found list i name pair (Some value) within is named one some =
    sym (ap only_of (values_at list i name pair within is named ∙ ap (λ l. l ++ pair.1 ∷ values_in (drop (i + 1) list) name) one))
