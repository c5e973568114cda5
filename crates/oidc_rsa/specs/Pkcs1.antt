-- The encoded message of RSASSA-PKCS1-v1_5 (RFC 8017 section 9.2).
use Rattle.std.specs.Prelude.{ℕ, ◌-◌, List, [], ◌∷◌, ◌++◌, length, replicate}
use Rattle.oidc_rsa.specs.declared.hash.HashFunction.{HashFunction}
use Rattle.oidc_rsa.specs.declared.hash.HashFunction.TheVariants.{Sha256, Sha384, Sha512}
use Rattle.oidc_rsa.specs.Hash.{hash_of}

-- the octets of a DigestInfo before the hash, which name the hash function (note 1)
abbrev pub digest_info_prefix : HashFunction → List ℕ
digest_info_prefix Sha256 =
    0x30 ∷ 0x31 ∷ 0x30 ∷ 0x0d ∷ 0x06 ∷ 0x09 ∷ 0x60 ∷ 0x86 ∷ 0x48 ∷ 0x01
    ∷ 0x65 ∷ 0x03 ∷ 0x04 ∷ 0x02 ∷ 0x01 ∷ 0x05 ∷ 0x00 ∷ 0x04 ∷ 0x20 ∷ []
digest_info_prefix Sha384 =
    0x30 ∷ 0x41 ∷ 0x30 ∷ 0x0d ∷ 0x06 ∷ 0x09 ∷ 0x60 ∷ 0x86 ∷ 0x48 ∷ 0x01
    ∷ 0x65 ∷ 0x03 ∷ 0x04 ∷ 0x02 ∷ 0x02 ∷ 0x05 ∷ 0x00 ∷ 0x04 ∷ 0x30 ∷ []
digest_info_prefix Sha512 =
    0x30 ∷ 0x51 ∷ 0x30 ∷ 0x0d ∷ 0x06 ∷ 0x09 ∷ 0x60 ∷ 0x86 ∷ 0x48 ∷ 0x01
    ∷ 0x65 ∷ 0x03 ∷ 0x04 ∷ 0x02 ∷ 0x03 ∷ 0x05 ∷ 0x00 ∷ 0x04 ∷ 0x40 ∷ []

-- T: the DigestInfo of a message
abbrev pub digest_info : HashFunction → List ℕ → List ℕ
digest_info hash message = digest_info_prefix hash ++ hash_of hash message

-- EM: 0x00, 0x01, octets 0xff up to that length, 0x00 and T. There is room for eight octets 0xff and more
-- (step 3), since a modulus has 256 octets at least.
unfoldable pub emsa_pkcs1 : HashFunction → List ℕ → ℕ → List ℕ
emsa_pkcs1 hash message len =
    let t = digest_info hash message
    in 0x00 ∷ 0x01 ∷ (replicate (len - length t - 3) 0xff ++ 0x00 ∷ t)
