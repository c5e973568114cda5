-- Members that a record is written as.
use Rattle.std.specs.Prelude.{ℕ, ℤ, List, [], ◌∷◌, map, Option, None, Some}
use Rattle.serde_json.specs.Data.{Data, string, number, unsigned, array}
use Rattle.serde_json.specs.View.{items_of}
use Rattle.oidc_members.specs.Seen.{OutSeen}
use Rattle.oidc_readers.specs.Moments.{seconds_data}

abbrev pub one_member : List ℕ → Data → List OutSeen
one_member name value = record { name = name; value = value } ∷ []

-- A field that is absent is left out.
abbrev pub text_member : List ℕ → Option (List ℕ) → List OutSeen
text_member name None = []
text_member name (Some text) = one_member name (string text)

abbrev pub whole_member : List ℕ → Option ℕ → List OutSeen
whole_member name None = []
whole_member name (Some n) = one_member name (number (unsigned n))

abbrev pub moment_member : List ℕ → Option ℤ → List OutSeen
moment_member name None = []
moment_member name (Some nanosecond) = one_member name (seconds_data nanosecond)

abbrev pub texts_data : List (List ℕ) → Data
texts_data texts = array (items_of (map string texts))

abbrev pub texts_member : List ℕ → Option (List (List ℕ)) → List OutSeen
texts_member name None = []
texts_member name (Some texts) = one_member name (texts_data texts)
