-- Values that are known at sight, and what every text that is one of them reads as.
use Rattle.std.specs.Prelude.{◌≡◌, ℕ, ◌==◌, ◌&&◌, ◌||◌, nat_lt, Bool, true, not, List, [], ◌∷◌, ◌++◌, Some, IsUtf8}
use Rattle.std.specs.List.{list_all}
use Rattle.serde_json.specs.Data.{Data, null, boolean, number, unsigned, string}
use Rattle.oidc_members.specs.declared.sight.Scalar.{Scalar}
use Rattle.oidc_members.specs.declared.sight.Scalar.TheVariants.{Text, Whole, Bool as Truth, Null}
use Rattle.oidc_members.specs.Objects.{trimmed, read_bytes}

-- A byte that stands for itself in a string: no control byte, no quote and no backslash (RFC 8259 section 7).
abbrev pub is_plain : ℕ → Bool
is_plain b = not (nat_lt b 32 || b == 34 || b == 92)

-- the same of ASCII
abbrev pub is_plain_ascii : ℕ → Bool
is_plain_ascii b = is_plain b && nat_lt b 128

abbrev pub data_of : Scalar → Data
data_of (Text s) = string s.now
data_of (Whole n) = number (unsigned n)
data_of (Truth b) = boolean b
data_of Null = null

-- the bytes are a string of these plain bytes
pub record IsQuoted (bytes s : List ℕ) : Type 0 where
  pub whole : bytes ≡ 34 ∷ (s ++ 34 ∷ [])
  pub plain : list_all is_plain s ≡ true
  pub utf8 : IsUtf8 s

-- Every text that is this one, but for the white space around it, reads as the value.
abbrev pub ReadsAs : List ℕ → Data → Type 0
ReadsAs text d = (bytes : List ℕ) → trimmed bytes ≡ text → read_bytes bytes ≡ Some d
