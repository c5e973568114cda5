-- The value of a name among pairs, where it stands there once.
use Rattle.std.specs.Prelude.{ℕ, List, Bool, false, Option}
use Rattle.std.specs.Option.{option_map_or}
use Rattle.std.specs.Str.{bytes_eq}
use Rattle.oidc_pairs.specs.Pairs.{values_in, only_of}

abbrev pub Pairs : Type 0
Pairs = List (List ℕ × List ℕ)

-- the value of the one pair of this name
abbrev pub only : Pairs → List ℕ → Option (List ℕ)
only pairs name = only_of (values_in pairs name)

-- a value is there, and is this one
abbrev pub is_it : Option (List ℕ) → List ℕ → Bool
is_it found value = option_map_or (λ text. bytes_eq text value) found false

-- there is one pair of this name, and it has this value
abbrev pub says : Pairs → List ℕ → List ℕ → Bool
says pairs name value = is_it (only pairs name) value
