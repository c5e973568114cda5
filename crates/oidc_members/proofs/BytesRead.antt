-- Items read one after another, and the bytes of a value.
use Rattle.std.proofs.Common.{◌≡◌, ℕ, ◌+◌, ◌<◌, true, false, cond, List, [], ◌∷◌, ◌++◌, length, drop, get_or, map, Option, Some, None, option_map, option_and_then, refl, sym, ap, ◌∙◌, add-one, append_assoc, drop-cons}
use Rattle.std.specs.Str.{IsUtf8, is_utf8}
use Rattle.std.proofs.lemmas.Str.{IsUtf8-from_is_utf8, is_utf8-from_IsUtf8}
use Rattle.serde_json.specs.Data.{Data}
use Rattle.serde_json.specs.Read.{read}
use Rattle.oidc_members.specs.Objects.{read_bytes, all_some}

-- what is done already, before the rest
abbrev pub with_front : {A : Type 0} → List A → Option (List A) → Option (List A)
with_front front rest = option_map (λ ys. front ++ ys) rest

pub value_read : (bytes : List ℕ) (d : Data) → IsUtf8 bytes → read bytes ≡ Some d → read_bytes bytes ≡ Some d
value_read bytes d utf8 is = ap (λ b. cond b (read bytes) None) (is_utf8-from_IsUtf8 bytes utf8) ∙ is

pub no_value_read : (bytes : List ℕ) → (IsUtf8 bytes → read bytes ≡ None) → read_bytes bytes ≡ None
no_value_read bytes none =
    elim (is_utf8 bytes) as (λ b. is_utf8 bytes ≡ b → cond b (read bytes) None ≡ None)
    [ true ↦ λ e. none (IsUtf8-from_is_utf8 bytes e) | false ↦ λ e. refl ]
    refl

-- one more of what is read one after another stands in front of the rest
pub one_more : {X Y A : Type 0} → (f : Y → Option A) (g : X → Y) (xs : List X) (i : ℕ) (d : X) (front : List A) (a : A)
    → i < length xs → f (g (get_or xs i d)) ≡ Some a
    → with_front front (all_some f (map g (drop i xs))) ≡ with_front (front ++ a ∷ []) (all_some f (map g (drop (i + 1) xs)))
one_more {X} {Y} {A} f g xs i d front a within is =
    ap (λ ys. with_front front (all_some f (map g ys))) (drop-cons xs i d within ∙ ap (λ n. get_or xs i d ∷ drop n xs) (sym (add-one i)))
    ∙ read (f (g (get_or xs i d))) (all_some f (map g (drop (i + 1) xs))) is
  where
    read : (first : Option A) (rest : Option (List A)) → first ≡ Some a
        → with_front front (option_and_then (λ y. option_map (λ ys. y ∷ ys) rest) first) ≡ with_front (front ++ a ∷ []) rest
    read first None e = ap (λ o. with_front front (option_and_then (λ y. option_map (λ ys. y ∷ ys) None) o)) e
    read first (Some ys) e =
        ap (λ o. with_front front (option_and_then (λ y. option_map (λ zs. y ∷ zs) (Some ys)) o)) e
        ∙ ap Some (sym (append_assoc front (a ∷ []) ys))
