-- The form text of a list of pairs: URL Standard, section 5.2.
use Rattle.std.specs.Prelude.{◌≡◌, ℕ, List, map, All}
use Rattle.std.specs.List.{join_with_byte}
use Rattle.form_urlencoded.specs.Form.{ampersand, byte_serialize, serialize_pair}
use Rattle.oidc_pairs.specs.Pairs.{pairs, IsTextPair}

-- The text with what isn't a letter, a digit or one of `*-._` escaped: a space as `+`, any other byte
-- as `%` and two hexadecimal digits (the percent-encode set of section 1.3).
abbrev pub escaped : List ℕ → List ℕ
escaped text = byte_serialize text

-- the pairs in their order, each as its escaped name, `=` and its escaped value, with `&` between them
unfoldable pub form : List (List ℕ × List ℕ) → List ℕ
form list = join_with_byte ampersand (map serialize_pair list)

-- What holds of a form text that pairs are added to: all are texts, and the text is the form text of its own pairs.
-- No clause cites it.
pub record IsWritten (text : List ℕ) : Type 0 where
  pub texts : All IsTextPair (pairs text)
  pub whole : text ≡ form (pairs text)
