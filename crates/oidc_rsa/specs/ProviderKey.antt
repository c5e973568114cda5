-- The keys of a provider and the secret of a client, of one type (RFC 7517 section 4): what a key says of a signature.
use Rattle.std.specs.Prelude.{◌≡◌, ◌≢◌, ◌⊎◌, ℕ, List, Bool, true, false, ◌&&◌, IsTrue, Option, None, Some, Ok, Err, if◌then◌else◌}
use Rattle.std.specs.List.{list_any}
use Rattle.std.specs.Str.{bytes_eq}
use Rattle.oidc_types.specs.{signing_key_type, signing_text}
use Rattle.oidc_types.specs.declared.core_algorithms.CoreJsonWebKeyType.{CoreJsonWebKeyType}
use Rattle.oidc_types.specs.declared.core_algorithms.CoreJsonWebKeyType.TheVariants as kind
use Rattle.oidc_types.specs.declared.core_algorithms.CoreJwsSigningAlgorithm.{CoreJwsSigningAlgorithm}
use Rattle.oidc_types.specs.declared.core_algorithms.CoreJwsSigningAlgorithm.TheVariants as alg
use Rattle.oidc_keys.specs.declared.core_jwk.CoreJsonWebKeyUse.{CoreJsonWebKeyUse}
use Rattle.oidc_keys.specs.declared.refusals.SignatureVerificationError.TheVariants.{CryptoError, InvalidKey, UnsupportedAlg}
use Rattle.oidc_keys.specs.Jwk.{Verdict}
use Rattle.oidc_keys.specs.CoreJwk.{is_for_signature, symmetric_verdict, IsMac, IsOtherThanMac}
use Rattle.oidc_rsa.specs.declared.algorithm.RsaAlgorithm.{RsaAlgorithm}
use Rattle.oidc_rsa.specs.declared.algorithm.RsaAlgorithm.TheVariants.{Rs256, Rs384, Rs512, Ps256, Ps384, Ps512}
use Rattle.oidc_rsa.specs.declared.key_operation.KeyOperation.{KeyOperation}
use Rattle.oidc_rsa.specs.declared.key_operation.KeyOperation.TheVariants.{Verify}
use Rattle.oidc_rsa.specs.Key.{PublicKey}
use Rattle.oidc_rsa.specs.Signature.{is_signature}

-- what a key is made of: a public key of RSA, or the octets of a secret
pub data KeyMaterial : Type 0 where
  Rsa : PublicKey → KeyMaterial
  Secret : List ℕ → KeyMaterial

-- what a contract sees of a key: that, and `kid`, `use`, `alg` and `key_ops` where it has them
pub record SeenProviderKey : Type 0 where
  pub material : KeyMaterial
  pub id : Option (List ℕ)
  pub purpose : Option CoreJsonWebKeyUse
  pub alg : Option CoreJwsSigningAlgorithm
  pub operations : Option (List KeyOperation)

-- a key that says nothing of itself
abbrev pub bare : KeyMaterial → SeenProviderKey
bare material = record { material = material; id = None; purpose = None; alg = None; operations = None }

-- ---- keys and algorithms

-- the type of a key (`kty`, RFC 7518 section 6.1)
abbrev pub type_of : KeyMaterial → CoreJsonWebKeyType
type_of (Rsa key) = kind.RSA
type_of (Secret octets) = kind.Symmetric

-- the RSA algorithm that a signing algorithm is, where it is one (RFC 7518 sections 3.3 and 3.5)
abbrev pub rsa_algorithm_of : CoreJwsSigningAlgorithm → Option RsaAlgorithm
rsa_algorithm_of alg.RsaSsaPkcs1V15Sha256 = Some Rs256
rsa_algorithm_of alg.RsaSsaPkcs1V15Sha384 = Some Rs384
rsa_algorithm_of alg.RsaSsaPkcs1V15Sha512 = Some Rs512
rsa_algorithm_of alg.RsaSsaPssSha256 = Some Ps256
rsa_algorithm_of alg.RsaSsaPssSha384 = Some Ps384
rsa_algorithm_of alg.RsaSsaPssSha512 = Some Ps512
rsa_algorithm_of _ = None

-- ---- what a key says of itself

-- its `use`, where it has one, is for signatures (4.2)
abbrev pub may_check : Option CoreJsonWebKeyUse → Bool
may_check None = true
may_check (Some purpose) = is_for_signature purpose

abbrev pub is_verify : KeyOperation → Bool
is_verify Verify = true
is_verify _ = false

-- `verify` is among its `key_ops`, where it has them (4.3)
abbrev pub may_verify : Option (List KeyOperation) → Bool
may_verify None = true
may_verify (Some operations) = list_any is_verify operations

-- its `alg`, where it has one, is this one (4.4)
abbrev pub may_take : Option CoreJwsSigningAlgorithm → CoreJwsSigningAlgorithm → Bool
may_take None algorithm = true
may_take (Some own) algorithm = bytes_eq (signing_text own) (signing_text algorithm)

-- all three let it check signatures by an algorithm
abbrev pub permits : SeenProviderKey → CoreJwsSigningAlgorithm → Bool
permits key algorithm = may_check key.purpose && may_verify key.operations && may_take key.alg algorithm

-- ---- verdicts

abbrev pub judged : Bool → Verdict
judged true = Ok tt
judged false = Err CryptoError

-- why a key has no word on an algorithm: that signs nothing, or it asks for another key
abbrev pub refused : CoreJwsSigningAlgorithm → Verdict
refused alg.None = Err UnsupportedAlg
refused _ = Err InvalidKey

abbrev pub judged_by : PublicKey → Option RsaAlgorithm → Verdict → List ℕ → List ℕ → Verdict
judged_by key None other message signature = other
judged_by key (Some algorithm) other message signature = judged (is_signature key algorithm message signature)

-- what a public key says of the six algorithms, and of others
abbrev pub rsa_verdict : PublicKey → CoreJwsSigningAlgorithm → List ℕ → List ℕ → Verdict
rsa_verdict key algorithm = judged_by key (rsa_algorithm_of algorithm) (refused algorithm)

-- by what a key is made of; a secret verifies by HMAC
abbrev pub material_verdict : KeyMaterial → CoreJwsSigningAlgorithm → List ℕ → List ℕ → Verdict
material_verdict (Rsa key) = rsa_verdict key
material_verdict (Secret octets) = symmetric_verdict octets

-- what a key says of an algorithm, a message and a signature
unfoldable pub provider_verdict : SeenProviderKey → CoreJwsSigningAlgorithm → List ℕ → List ℕ → Verdict
provider_verdict key algorithm message signature =
    if permits key algorithm then material_verdict key.material algorithm message signature else refused algorithm

-- ---- what each verdict rests on

-- the algorithm is one of such keys, and the signature is one of the message: by RSA, or the whole MAC
abbrev pub IsSignatureUnder : KeyMaterial → CoreJwsSigningAlgorithm → List ℕ → List ℕ → Type 0
IsSignatureUnder (Rsa key) algorithm message signature =
    (by : RsaAlgorithm) × (rsa_algorithm_of algorithm ≡ Some by) × IsTrue (is_signature key by message signature)
IsSignatureUnder (Secret octets) algorithm message signature = IsMac octets algorithm message signature

-- the algorithm is one of such keys, and the signature isn't one
abbrev pub IsNoSignatureUnder : KeyMaterial → CoreJwsSigningAlgorithm → List ℕ → List ℕ → Type 0
IsNoSignatureUnder (Rsa key) algorithm message signature =
    (by : RsaAlgorithm) × (rsa_algorithm_of algorithm ≡ Some by) × (is_signature key by message signature ≡ false)
IsNoSignatureUnder (Secret octets) algorithm message signature = IsOtherThanMac octets algorithm message signature

-- a key verifies: it lets itself be taken, and the signature is one under it
abbrev pub Verifies : SeenProviderKey → CoreJwsSigningAlgorithm → List ℕ → List ℕ → Type 0
Verifies key algorithm message signature =
    IsTrue (permits key algorithm) × IsSignatureUnder key.material algorithm message signature

-- it lets itself be taken, and the signature is none
abbrev pub Disproves : SeenProviderKey → CoreJwsSigningAlgorithm → List ℕ → List ℕ → Type 0
Disproves key algorithm message signature =
    IsTrue (permits key algorithm) × IsNoSignatureUnder key.material algorithm message signature

-- the algorithm has a type of key, and it is another than this key's, or the key says of itself that it isn't for that
abbrev pub NeedsOtherKey : SeenProviderKey → CoreJwsSigningAlgorithm → Type 0
NeedsOtherKey key algorithm =
    (needed : CoreJsonWebKeyType) × (signing_key_type algorithm ≡ Some needed)
    × ((needed ≢ type_of key.material) ⊎ (permits key algorithm ≡ false))
