-- The keys of verifiers: a client's secret, and keys of an issuer that know one signature.
use Rattle.std.specs.Prelude.{ℕ, List, Option, None}
use Rattle.oidc_types.specs.declared.core_algorithms.CoreJsonWebKeyType.{CoreJsonWebKeyType}
use Rattle.oidc_types.specs.declared.core_algorithms.CoreJsonWebKeyType.TheVariants.{Symmetric}
use Rattle.oidc_types.specs.declared.core_algorithms.CoreJwsSigningAlgorithm.{CoreJwsSigningAlgorithm}
use Rattle.oidc_keys.specs.declared.core_jwk.CoreJsonWebKeyUse.{CoreJsonWebKeyUse}
use Rattle.oidc_keys.specs.Jwk.{Verdict}
use Rattle.oidc_keys.specs.CoreJwk.{symmetric_verdict, compared, hash_function}
use Rattle.case_lines.specs.declared.verifier_keys.VerifierKey.{VerifierKey}
use Rattle.case_lines.specs.declared.verifier_keys.VerifierKey.TheVariants.{Secret, Given}

abbrev pub id_of : VerifierKey → Option (List ℕ)
id_of (Secret key) = key.id
id_of (Given key) = key.id

abbrev pub type_of : VerifierKey → CoreJsonWebKeyType
type_of (Secret key) = Symmetric
type_of (Given key) = key.kind

abbrev pub use_of : VerifierKey → Option CoreJsonWebKeyUse
use_of (Secret key) = None
use_of (Given key) = key.purpose

-- A secret verifies by HMAC. A key that is given takes its own signature, of any message, and no other.
abbrev pub verdict_of : VerifierKey → CoreJwsSigningAlgorithm → List ℕ → List ℕ → Verdict
verdict_of (Secret key) alg message signature = symmetric_verdict key.secret alg message signature
verdict_of (Given key) alg message signature = compared key.signature signature

-- The hash function of an algorithm is the same under each key.
abbrev pub hash_of : VerifierKey → CoreJwsSigningAlgorithm → Option (List ℕ → List ℕ)
hash_of key alg = hash_function alg
