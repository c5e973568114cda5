-- Numbers of a key as texts: Base64urlUInt (RFC 7518 section 2).
use Rattle.std.specs.Prelude.{◌≡◌, ℕ, List, [], ◌∷◌, Bool, true, false, not, ◌==◌, Option, None, Some, option_and_then, if◌then◌else◌}
use Rattle.base64.specs.GeneralPurpose.{decoded_of, encode_of}
use Rattle.base64.specs.Engines.{url_safe_no_pad}

-- as few octets as the number needs: no zero stands at the front, but for the one octet of zero itself
abbrev pub is_shortest : List ℕ → Bool
is_shortest [] = false
is_shortest (octet ∷ []) = true
is_shortest (octet ∷ next ∷ octets) = not (octet == 0)

abbrev pub if_shortest : List ℕ → Option (List ℕ)
if_shortest octets = if is_shortest octets then Some octets else None

-- the octets of a number, the highest first, where a text is one: base64url without padding, strictly
unfoldable pub octets_of : List ℕ → Option (List ℕ)
octets_of text = option_and_then if_shortest (decoded_of url_safe_no_pad text)

-- base64url without padding
abbrev pub encoded : List ℕ → List ℕ
encoded octets = encode_of url_safe_no_pad octets

-- octets that are read again of what is written of them
abbrev pub IsNumber : List ℕ → Type 0
IsNumber octets = octets_of (encoded octets) ≡ Some octets
