-- Which signatures are ones of a message under a key (RFC 8017 sections 8.2.2 and 8.1.2).
use Rattle.std.specs.Prelude.{ℕ, ◌-◌, ◌^◌, Bool, ◌&&◌, ◌==◌, nat_lt, List, length, bytes_eq}
use Rattle.oidc_rsa.specs.declared.algorithm.RsaAlgorithm.{RsaAlgorithm}
use Rattle.oidc_rsa.specs.declared.algorithm.RsaAlgorithm.TheVariants.{Rs256, Rs384, Rs512, Ps256, Ps384, Ps512}
use Rattle.oidc_rsa.specs.declared.hash.HashFunction.{HashFunction}
use Rattle.oidc_rsa.specs.declared.hash.HashFunction.TheVariants.{Sha256, Sha384, Sha512}
use Rattle.oidc_rsa.specs.Octets.{os2ip, i2osp}
use Rattle.oidc_rsa.specs.Key.{PublicKey, octets_for, modulus_len, rsavp1}
use Rattle.oidc_rsa.specs.Pkcs1.{emsa_pkcs1}
use Rattle.oidc_rsa.specs.Pss.{is_pss_encoding}

-- a signature is as long as the modulus (8.2.2 step 1, 8.1.2 step 1), and writes a number below it (5.2.2 step 1)
abbrev pub is_in_range : PublicKey → List ℕ → Bool
is_in_range key signature =
    length signature == modulus_len key && nat_lt (os2ip signature) key.modulus

-- the message representative that the key makes of a signature (8.2.2 step 2, 8.1.2 step 2)
abbrev pub message_representative : PublicKey → List ℕ → ℕ
message_representative key signature = rsavp1 key (os2ip signature)

-- RSASSA-PKCS1-v1_5 (8.2.2): the encoded message, compared whole
abbrev pub is_pkcs1_signature : HashFunction → PublicKey → List ℕ → List ℕ → Bool
is_pkcs1_signature hash key message signature =
    let k = modulus_len key
    in is_in_range key signature
    && bytes_eq (i2osp (message_representative key signature) k) (emsa_pkcs1 hash message k)

-- RSASSA-PSS (8.1.2): the encoded message has one bit less than the modulus
abbrev pub is_pss_signature : HashFunction → PublicKey → List ℕ → List ℕ → Bool
is_pss_signature hash key message signature =
    let em_bits = key.bits - 1
    in let em_len = octets_for em_bits
    in is_in_range key signature
    && nat_lt (message_representative key signature) (256 ^ em_len)
    && is_pss_encoding hash message (i2osp (message_representative key signature) em_len) em_bits

-- by algorithm (RFC 7518 sections 3.3 and 3.5)
abbrev pub is_signature : PublicKey → RsaAlgorithm → List ℕ → List ℕ → Bool
is_signature key Rs256 = is_pkcs1_signature Sha256 key
is_signature key Rs384 = is_pkcs1_signature Sha384 key
is_signature key Rs512 = is_pkcs1_signature Sha512 key
is_signature key Ps256 = is_pss_signature Sha256 key
is_signature key Ps384 = is_pss_signature Sha384 key
is_signature key Ps512 = is_pss_signature Sha512 key
