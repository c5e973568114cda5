-- The program's own keys: what their uses allow, which hash function goes with an algorithm, and
-- what symmetric keys verify and sign.
use Rattle.std.specs.Prelude.{◌≡◌, ◌≢◌, ℕ, List, Bool, true, false, nat_eq, Option, None, Some, Result, Ok, Err, if◌then◌else◌}
use Rattle.std.specs.Cmp.Lexicographic.{pointwise}
use Rattle.sha2.specs.Sha256.{sha256}
use Rattle.sha2.specs.Sha512.{sha384, sha512}
use Rattle.oidc_types.specs.{signing_key_type, signing_text}
use Rattle.oidc_types.specs.declared.core_algorithms.CoreJsonWebKeyType.{CoreJsonWebKeyType}
use Rattle.oidc_types.specs.declared.core_algorithms.CoreJsonWebKeyType.TheVariants as kind
use Rattle.oidc_types.specs.declared.core_algorithms.CoreJwsSigningAlgorithm.{CoreJwsSigningAlgorithm}
use Rattle.oidc_types.specs.declared.core_algorithms.CoreJwsSigningAlgorithm.TheVariants as alg
use Rattle.oidc_types.specs.declared.signing_error.SigningError.{SigningError}
use Rattle.oidc_types.specs.declared.signing_error.SigningError.TheVariants.{UnsupportedAlg as Unsigned}
use Rattle.oidc_keys.specs.declared.core_jwk.CoreJsonWebKeyUse.{CoreJsonWebKeyUse}
use Rattle.oidc_keys.specs.declared.core_jwk.CoreJsonWebKeyUse.TheVariants.{Signature, Encryption, Other}
use Rattle.oidc_keys.specs.declared.mac.HmacAlgorithm.{HmacAlgorithm}
use Rattle.oidc_keys.specs.declared.mac.HmacAlgorithm.TheVariants.{Sha256, Sha384, Sha512}
use Rattle.oidc_keys.specs.declared.refusals.SignatureVerificationError.TheVariants.{CryptoError, InvalidKey, UnsupportedAlg}
use Rattle.oidc_keys.specs.Jwk.{Verdict}
use Rattle.oidc_keys.specs.Mac.{mac_of}

-- ---- what a key's use allows (RFC 7517 section 4.2)

-- `sig` alone is for signatures
abbrev pub is_for_signature : CoreJsonWebKeyUse → Bool
is_for_signature Signature = true
is_for_signature Encryption = false
is_for_signature (Other name) = false

-- `enc` alone is for encryption
abbrev pub is_for_encryption : CoreJsonWebKeyUse → Bool
is_for_encryption Signature = false
is_for_encryption Encryption = true
is_for_encryption (Other name) = false

-- ---- the hash functions of algorithms

-- the hash function that goes with an algorithm (Core 1.0 section 3.1.3.6)
abbrev pub hash_function : CoreJwsSigningAlgorithm → Option (List ℕ → List ℕ)
hash_function alg.HmacSha256 = Some sha256
hash_function alg.RsaSsaPkcs1V15Sha256 = Some sha256
hash_function alg.RsaSsaPssSha256 = Some sha256
hash_function alg.EcdsaP256Sha256 = Some sha256
hash_function alg.HmacSha384 = Some sha384
hash_function alg.RsaSsaPkcs1V15Sha384 = Some sha384
hash_function alg.RsaSsaPssSha384 = Some sha384
hash_function alg.EcdsaP384Sha384 = Some sha384
hash_function alg.HmacSha512 = Some sha512
hash_function alg.RsaSsaPkcs1V15Sha512 = Some sha512
hash_function alg.RsaSsaPssSha512 = Some sha512
hash_function alg.EcdsaP521Sha512 = Some sha512
hash_function alg.EdDsa = None
hash_function alg.None = None

-- ---- symmetric keys

-- what a contract sees of a symmetric key: its bytes, and its id where it has one
pub record SymmetricKey : Type 0 where
  pub secret : List ℕ
  pub id : Option (List ℕ)

-- the HMAC that an algorithm is, where it is one (RFC 7518 section 3.2)
abbrev pub hmac_of : CoreJwsSigningAlgorithm → Option HmacAlgorithm
hmac_of alg.HmacSha256 = Some Sha256
hmac_of alg.HmacSha384 = Some Sha384
hmac_of alg.HmacSha512 = Some Sha512
hmac_of _ = None

-- a signature is the MAC, byte for byte
abbrev pub compared : List ℕ → List ℕ → Verdict
compared mac signature = if pointwise nat_eq signature mac then Ok tt else Err CryptoError

-- the verdict of a symmetric key of these bytes: of an algorithm that is no HMAC, that it asks for
-- another type of key, or for none
abbrev pub symmetric_verdict : List ℕ → CoreJwsSigningAlgorithm → List ℕ → List ℕ → Verdict
symmetric_verdict secret alg.HmacSha256 message signature = compared (mac_of Sha256 secret message) signature
symmetric_verdict secret alg.HmacSha384 message signature = compared (mac_of Sha384 secret message) signature
symmetric_verdict secret alg.HmacSha512 message signature = compared (mac_of Sha512 secret message) signature
symmetric_verdict secret alg.None message signature = Err UnsupportedAlg
symmetric_verdict secret _ message signature = Err InvalidKey

-- the algorithm is an HMAC, and the signature is the MAC of the message under these bytes
abbrev pub IsMac : List ℕ → CoreJwsSigningAlgorithm → List ℕ → List ℕ → Type 0
IsMac secret algorithm message signature =
    (hash : HmacAlgorithm) × (hmac_of algorithm ≡ Some hash) × (signature ≡ mac_of hash secret message)

-- the algorithm is an HMAC, and the signature isn't that MAC
abbrev pub IsOtherThanMac : List ℕ → CoreJwsSigningAlgorithm → List ℕ → List ℕ → Type 0
IsOtherThanMac secret algorithm message signature =
    (hash : HmacAlgorithm) × (hmac_of algorithm ≡ Some hash) × (signature ≢ mac_of hash secret message)

-- the algorithm has a type of key, and it isn't the symmetric one
abbrev pub NeedsOtherKey : CoreJwsSigningAlgorithm → Type 0
NeedsOtherKey algorithm =
    (needed : CoreJsonWebKeyType) × (signing_key_type algorithm ≡ Some needed) × (needed ≢ kind.Symmetric)

-- what a symmetric key of these bytes signs
abbrev pub symmetric_signature : List ℕ → CoreJwsSigningAlgorithm → List ℕ → Result (List ℕ) SigningError
symmetric_signature secret alg.HmacSha256 message = Ok (mac_of Sha256 secret message)
symmetric_signature secret alg.HmacSha384 message = Ok (mac_of Sha384 secret message)
symmetric_signature secret alg.HmacSha512 message = Ok (mac_of Sha512 secret message)
symmetric_signature secret algorithm message = Err (Unsigned (signing_text algorithm))
