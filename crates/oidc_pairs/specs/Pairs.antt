-- What a text of `application/x-www-form-urlencoded` says, as a list of pairs: URL Standard, section 5.1.
use Rattle.std.specs.Prelude.{ℕ, Bool, List, [], ◌∷◌, Option, None, Some, map, filter, IsUtf8}
use Rattle.std.specs.Str.{bytes_eq}
use Rattle.std.specs.Str.Lossy.{utf8_lossy}
use Rattle.form_urlencoded.specs.Form as kit

-- The text that a name or a value stands for. `+` is a space, percent escapes are decoded, and each
-- maximal part that isn't UTF-8 is one U+FFFD (Encoding Standard, "UTF-8 decode without BOM").
abbrev pub text_of : List ℕ → List ℕ
text_of bytes = utf8_lossy (kit.decode bytes)

-- The pairs of a text: it is cut at `&`, empty pieces are dropped, and each piece is cut at its first
-- `=`; without one its value is empty.
unfoldable pub pairs : List ℕ → List (List ℕ × List ℕ)
pairs query = map (λ p. (text_of p.0, text_of p.1)) (kit.raw_pairs query)

-- the pair has this name
abbrev pub is_named : List ℕ → List ℕ × List ℕ → Bool
is_named name pair = bytes_eq pair.0 name

-- the values of the pairs with this name, in their order
abbrev pub values_in : List (List ℕ × List ℕ) → List ℕ → List (List ℕ)
values_in list name = map (λ p. p.1) (filter (is_named name) list)

-- the values that a text has for this name
abbrev pub values : List ℕ → List ℕ → List (List ℕ)
values query name = values_in (pairs query) name

-- the first of these values, where there is one
abbrev pub first_of : List (List ℕ) → Option (List ℕ)
first_of [] = None
first_of (value ∷ others) = Some value

-- the value, where there is exactly one
abbrev pub only_of : List (List ℕ) → Option (List ℕ)
only_of [] = None
only_of (value ∷ []) = Some value
only_of (value ∷ next ∷ others) = None

-- name and value are UTF-8
abbrev pub IsTextPair : List ℕ × List ℕ → Type 0
IsTextPair pair = IsUtf8 pair.0 × IsUtf8 pair.1
