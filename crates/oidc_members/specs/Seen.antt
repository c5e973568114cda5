-- Members as contracts see them.
use Rattle.std.specs.Prelude.{ℕ, List, false}
use Rattle.serde_json.specs.Data.{Data}
use Rattle.oidc_members.specs.declared.reading.Reading.{Reading}

-- a member that was read: its name, its value, and the bytes of the value as they stood
pub record SeenMember : Type 0 where
  pub name : List ℕ
  pub value : Data
  pub text : List ℕ

-- the strict reading: no text is a boolean or a moment
abbrev pub strict : Reading
strict = record { string_booleans = false; rfc3339_moments = false }

-- the members of an object, in order and with duplicates kept, and how their values are to be read
pub record SeenMembers : Type 0 where
  pub list : List SeenMember
  pub reading : Reading

-- a member that is written
pub record OutSeen : Type 0 where
  pub name : List ℕ
  pub value : Data
