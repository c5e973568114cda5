-- Proof Key for Code Exchange (RFC 7636).
use Rattle.std.specs.Prelude.{ℕ, List, length, Bool, ◌&&◌, nat_le}
use Rattle.base64.specs.GeneralPurpose.{encode_of}
use Rattle.base64.specs.Engines.{url_safe_no_pad}
use Rattle.sha2.specs.Sha256.{sha256}

-- a verifier has 43 to 128 bytes (section 4.1)
abbrev pub is_verifier : List ℕ → Bool
is_verifier verifier = nat_le 43 (length verifier) && nat_le (length verifier) 128

-- The bytes of a random verifier are 32 to 96: their text then has 43 to 128.
abbrev pub is_random_length : ℕ → Bool
is_random_length bytes = nat_le 32 bytes && nat_le bytes 96

-- the S256 challenge of a verifier: BASE64URL-ENCODE(SHA256(ASCII(code_verifier))) (section 4.2)
unfoldable pub s256 : List ℕ → List ℕ
s256 verifier = encode_of url_safe_no_pad (sha256 verifier)
