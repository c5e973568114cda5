-- Members that were written, as they are read back (RFC 8259).
use Rattle.std.specs.Prelude.{⊤, ℕ, ◌^◌, ◌<◌, ◌≤◌, pos, negsuc, List, [], ◌∷◌}
use Rattle.std.specs.List.{All}
use Rattle.std.specs.Cmp.Lexicographic.{slice_cmp}
use Rattle.std.specs.List.Sorted.{IsStrictlySortedBy}
use Rattle.std.specs.Ordering.{nat_cmp}
use Rattle.std.specs.Str.{IsUtf8}
use Rattle.serde_json.specs.Data.{Num, unsigned, negative, float, Data, null, boolean, number, string, array, object, Items, no_items, item, Members, no_members, member, depth}
use Rattle.serde_json.specs.Read.{max_depth}
use Rattle.serde_json.specs.Written.{compact_text}
use Rattle.oidc_members.specs.Seen.{SeenMember, OutSeen}

-- from -2^63 up to 2^64 - 1, and no float: a float's digits are open
abbrev pub IsWholeNumber : Num → Type 0
IsWholeNumber (unsigned n) = n < 2 ^ 64
IsWholeNumber (negative (pos n)) = ⊥
IsWholeNumber (negative (negsuc n)) = n < 2 ^ 63
IsWholeNumber (float x) = ⊥

abbrev pub names_of : Members → List (List ℕ)
names_of no_members = []
names_of (member name value rest) = name ∷ names_of rest

-- in the byte order of their names, and no name twice
abbrev pub AreInOrder : Members → Type 0
AreInOrder members = IsStrictlySortedBy (slice_cmp nat_cmp) (names_of members)

-- The numbers are whole, and the members of each object inside stand in order. `serde_json` holds
-- no other values but for floats.
abbrev mutual
  pub IsWhole : Data → Type 0
  IsWhole null = ⊤
  IsWhole (boolean b) = ⊤
  IsWhole (number n) = IsWholeNumber n
  IsWhole (string text) = ⊤
  IsWhole (array items) = ItemsAreWhole items
  IsWhole (object members) = AreInOrder members × MembersAreWhole members

  pub ItemsAreWhole : Items → Type 0
  ItemsAreWhole no_items = ⊤
  ItemsAreWhole (item value rest) = IsWhole value × ItemsAreWhole rest

  pub MembersAreWhole : Members → Type 0
  MembersAreWhole no_members = ⊤
  MembersAreWhole (member name value rest) = IsWhole value × MembersAreWhole rest

-- The texts and the names are UTF-8, as those of a program are.
abbrev mutual
  pub HasTexts : Data → Type 0
  HasTexts null = ⊤
  HasTexts (boolean b) = ⊤
  HasTexts (number n) = ⊤
  HasTexts (string text) = IsUtf8 text
  HasTexts (array items) = ItemsHaveTexts items
  HasTexts (object members) = MembersHaveTexts members

  pub ItemsHaveTexts : Items → Type 0
  ItemsHaveTexts no_items = ⊤
  ItemsHaveTexts (item value rest) = HasTexts value × ItemsHaveTexts rest

  pub MembersHaveTexts : Members → Type 0
  MembersHaveTexts no_members = ⊤
  MembersHaveTexts (member name value rest) = IsUtf8 name × HasTexts value × MembersHaveTexts rest

-- a value that `Members::split` takes, its texts aside: whole, and nested at most 127 deep
abbrev pub MayStand : Data → Type 0
MayStand value = IsWhole value × (depth value ≤ max_depth)

-- The name and the texts of the value are UTF-8.
abbrev pub IsUtf8Member : OutSeen → Type 0
IsUtf8Member m = IsUtf8 m.name × HasTexts m.value

-- The members are UTF-8 where those before were.
abbrev pub KeepsUtf8 : List OutSeen → List OutSeen → Type 0
KeepsUtf8 before after = All IsUtf8Member before → All IsUtf8Member after

-- A member that may be written: its texts are UTF-8, and its value may stand.
pub record MayBeWritten (m : OutSeen) : Type 0 where
  pub texts : IsUtf8Member m
  pub value : MayStand m.value

-- The member has its name and its value, and its text is the compact one.
abbrev pub as_read : OutSeen → SeenMember
as_read m = record { name = m.name; value = m.value; text = compact_text m.value }
