-- HMAC as RFC 2104 section 2 states it, over SHA-256, SHA-384 and SHA-512 of FIPS 180-4.
use Rattle.std.specs.Prelude.{ℕ, ◌-◌, nat_lt, List, ◌++◌, length, map, replicate, bit_xor, if◌then◌else◌}
use Rattle.sha2.specs.Sha256.{sha256}
use Rattle.sha2.specs.Sha512.{sha384, sha512}
use Rattle.oidc_keys.specs.declared.mac.HmacAlgorithm.{HmacAlgorithm}
use Rattle.oidc_keys.specs.declared.mac.HmacAlgorithm.TheVariants.{Sha256, Sha384, Sha512}

-- each byte of a block xored with the pad's byte
abbrev pub masked : ℕ → List ℕ → List ℕ
masked pad block = map (λ byte. bit_xor byte pad) block

-- a key longer than a block is hashed first
abbrev pub shortened : (List ℕ → List ℕ) → ℕ → List ℕ → List ℕ
shortened hash block key = if nat_lt block (length key) then hash key else key

-- zeros are appended up to a block
abbrev pub padded : ℕ → List ℕ → List ℕ
padded block key = key ++ replicate (block - length key) 0

-- H((K xor opad) ++ H((K xor ipad) ++ message)), where K is the key made one block long
unfoldable pub hmac_over : (List ℕ → List ℕ) → ℕ → List ℕ → List ℕ → List ℕ
hmac_over hash block key message =
    let block_key = padded block (shortened hash block key)
    in hash (masked 0x5C block_key ++ hash (masked 0x36 block_key ++ message))

-- the MAC of a message under a key, by the hash function's own block length (FIPS 180-4 section 1)
abbrev pub mac_of : HmacAlgorithm → List ℕ → List ℕ → List ℕ
mac_of Sha256 key message = hmac_over sha256 64 key message
mac_of Sha384 key message = hmac_over sha384 128 key message
mac_of Sha512 key message = hmac_over sha512 128 key message
