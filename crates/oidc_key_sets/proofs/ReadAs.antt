-- A text is read as one thing alone.
use Rattle.std.proofs.Common.{◌≡◌, ℕ, List, Some, Result, Ok, Err, inl, inr, sym, ◌∙◌, ap, subst}
use Rattle.json.specs.Json.{Json}
use Rattle.json.specs.Strict.{HasUniqueKeys}
use Rattle.oidc_key_sets.specs.declared.errors.KeySetError.{KeySetError}
use Rattle.oidc_key_sets.specs.declared.errors.KeySetError.TheVariants.{NoJson, DoubledName, NoObject, NoKeys, NoArray, TooMany, Key, Memory}
use Rattle.oidc_key_sets.specs.Keys.{SeenRsaKey}
use Rattle.oidc_key_sets.specs.KeySets.{IsTextOf, HasDoubledName, IsReadByValue, IsReadAs, IsRead, UnlessMemory, set_in}

abbrev Read : Type 0
Read = Result (List SeenRsaKey) KeySetError

-- a text has one value
same_value : (text : List ℕ) (a b : Json) → IsTextOf a text → IsTextOf b text → a ≡ b
same_value text a b (u, of_a) (v, of_b) = let both : Some a ≡ Some b = sym of_a ∙ of_b in cc

same_said : (text : List ℕ) (a b : Read) → IsReadByValue text a → IsReadByValue text b → a ≡ b
same_said text a b x y =
    let e : x.value ≡ y.value = same_value text x.value y.value x.plain.of_text y.plain.of_text in
    sym x.said ∙ ap set_in e ∙ y.said

not_both : {A : Type 0} (text : List ℕ) (b : Read) → HasDoubledName text → IsReadByValue text b → A
not_both text b x y =
    let e : y.value ≡ x.value = same_value text y.value x.value y.plain.of_text x.of_text in
    absurd (x.doubled (subst HasUniqueKeys e y.plain.unique))

pub only : (text : List ℕ) (a b : Read) → IsReadAs text a → IsReadAs text b → a ≡ b
only text a b (inl x) (inl y) = x.1 ∙ sym y.1
only text a b (inl x) (inr (inl y)) = absurd (x.0 (y.0.value, y.0.of_text))
only text a b (inl x) (inr (inr y)) = absurd (x.0 (y.value, y.plain.of_text))
only text a b (inr (inl x)) (inl y) = absurd (y.0 (x.0.value, x.0.of_text))
only text a b (inr (inl x)) (inr (inl y)) = x.1 ∙ sym y.1
only text a b (inr (inl x)) (inr (inr y)) = not_both text b x.0 y
only text a b (inr (inr x)) (inl y) = absurd (y.0 (x.value, x.plain.of_text))
only text a b (inr (inr x)) (inr (inl y)) = sym (not_both text a y.0 x)
only text a b (inr (inr x)) (inr (inr y)) = same_said text a b x y

-- what was read is what the text is read as, want of memory aside
pub only_read : (text : List ℕ) (read meant : Read) → IsRead text read → IsReadAs text meant
    → UnlessMemory read (read ≡ meant)
only_read text (Ok keys) meant x y = only text (Ok keys) meant x y
only_read text (Err NoJson) meant x y = only text (Err NoJson) meant x y
only_read text (Err DoubledName) meant x y = only text (Err DoubledName) meant x y
only_read text (Err NoObject) meant x y = only text (Err NoObject) meant x y
only_read text (Err NoKeys) meant x y = only text (Err NoKeys) meant x y
only_read text (Err NoArray) meant x y = only text (Err NoArray) meant x y
only_read text (Err TooMany) meant x y = only text (Err TooMany) meant x y
only_read text (Err (Key place error)) meant x y = only text (Err (Key place error)) meant x y
only_read text (Err Memory) meant x y = tt
