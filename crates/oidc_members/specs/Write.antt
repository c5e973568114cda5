-- The text that members are written as.
use Rattle.std.specs.Prelude.{ℕ, Bool, List, [], ◌∷◌}
use Rattle.std.specs.List.{list_any}
use Rattle.serde_json.specs.Data.{object, Members, no_members, member}
use Rattle.serde_json.specs.Written.{compact_text, has_float}
use Rattle.oidc_members.specs.Seen.{OutSeen}

-- the members as data, in the order of the list
abbrev pub data_of : List OutSeen → Members
data_of [] = no_members
data_of (m ∷ ms) = member m.name m.value (data_of ms)

-- The object's text has no white space between its tokens (RFC 8259 section 2).
abbrev pub object_text : List OutSeen → List ℕ
object_text ms = compact_text (object (data_of ms))

abbrev pub any_float : List OutSeen → Bool
any_float ms = list_any (λ m. has_float m.value) ms
