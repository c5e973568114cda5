-- what `Debug` prints of a text of one kind
use Rattle.std.specs.Prelude.{◌++◌, List, ℕ, Option, codes}
use Rattle.std.specs.Option.{option_map}

-- the kind's name, and in parentheses the text as `Debug` prints it
abbrev pub debug_text : List ℕ → Option (List ℕ) → Option (List ℕ)
debug_text name shown = option_map (λ text. name ++ codes "(" ++ text ++ codes ")") shown
