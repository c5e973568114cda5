-- What the words of a command line ask for.
use Rattle.std.specs.Prelude.{◌≡◌, ℕ, ◌==◌, nat_le, ◌&&◌, List, [], ◌∷◌, slice_index, Option, None, Some, option_and_then, option_map, if◌then◌else◌, bytes_eq, codes, map, String}
use Rattle.std.specs.Global.{Global}
use Rattle.std.specs.String.{string_bytes}
use Rattle.oidc_cli.specs.Values.{decimal_of}
use Rattle.oidc_cli.specs.declared.commands.Command.{Command}
use Rattle.oidc_cli.specs.declared.commands.Command.TheVariants.{Replay, Drill}

-- a number of logins that a drill may have
abbrev pub in_drill : ℕ → Option ℕ
in_drill n = if nat_le 1 n && nat_le n 4096 then Some n else None

-- a decimal from 1 to 4,096, without sign and without leading zero
unfoldable pub drill_count : List ℕ → Option ℕ
drill_count word = if slice_index word 0 == 48 then None else option_and_then in_drill (decimal_of word)

-- the one word `replay`, or `drill` and such a decimal
abbrev pub command_of : List (List ℕ) → Option Command
command_of [] = None
command_of (word ∷ []) = if bytes_eq word (codes "replay") then Some Replay else None
command_of (word ∷ count ∷ []) = if bytes_eq word (codes "drill") then option_map Drill (drill_count count) else None
command_of (word ∷ count ∷ more ∷ later) = None

-- the words ask for this
abbrev pub Asks : List (String Global) → Command → Type 0
Asks words command = command_of (map string_bytes words) ≡ Some command
