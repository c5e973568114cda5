-- No verdict of a key is want of memory.
use Rattle.std.specs.Prelude.{◌≡◌, ◌≢◌, ℕ, List, Bool, true, false, Option, None, Some, Err, if◌then◌else◌}
use Rattle.std.proofs.Common.{arith}
use Rattle.oidc_types.specs.declared.core_algorithms.CoreJwsSigningAlgorithm.{CoreJwsSigningAlgorithm}
use Rattle.oidc_types.specs.declared.core_algorithms.CoreJwsSigningAlgorithm.TheVariants as alg
use Rattle.oidc_keys.specs.declared.refusals.SignatureVerificationError.TheVariants.{Memory}
use Rattle.oidc_keys.specs.Jwk.{Verdict}
use Rattle.oidc_keys.specs.CoreJwk.{symmetric_verdict}
use Rattle.oidc_rsa.specs.declared.algorithm.RsaAlgorithm.{RsaAlgorithm}
use Rattle.oidc_rsa.specs.Key.{PublicKey}
use Rattle.oidc_rsa.specs.Signature.{is_signature}
use Rattle.oidc_rsa.specs.ProviderKey.{KeyMaterial, Rsa, Secret, SeenProviderKey, rsa_algorithm_of, permits, judged, refused, judged_by, material_verdict, provider_verdict}

judged_never : (accepted : Bool) → judged accepted ≢ Err Memory
judged_never true h = cc
judged_never false h = cc

refused_never : (algorithm : CoreJwsSigningAlgorithm) → refused algorithm ≢ Err Memory
refused_never alg.None h = cc
refused_never _ h = cc

symmetric_never : (octets : List ℕ) (algorithm : CoreJwsSigningAlgorithm) (message signature : List ℕ) → symmetric_verdict octets algorithm message signature ≢ Err Memory
symmetric_never octets algorithm message signature h = grind (arith)

judged_by_never : (key : PublicKey) (by : Option RsaAlgorithm) (other : Verdict) → other ≢ Err Memory → (message signature : List ℕ) → judged_by key by other message signature ≢ Err Memory
judged_by_never key None other never message signature h = never h
judged_by_never key (Some algorithm) other never message signature h = judged_never (is_signature key algorithm message signature) h

material_never : (material : KeyMaterial) (algorithm : CoreJwsSigningAlgorithm) (message signature : List ℕ) → material_verdict material algorithm message signature ≢ Err Memory
material_never (Rsa key) algorithm message signature h = judged_by_never key (rsa_algorithm_of algorithm) (refused algorithm) (refused_never algorithm) message signature h
material_never (Secret octets) algorithm message signature h = symmetric_never octets algorithm message signature h

either_never : (test : Bool) (a b : Verdict) → a ≢ Err Memory → b ≢ Err Memory → (if test then a else b) ≢ Err Memory
either_never true a b not_a not_b h = not_a h
either_never false a b not_a not_b h = not_b h

pub never_memory : (key : SeenProviderKey) (algorithm : CoreJwsSigningAlgorithm) (message signature : List ℕ) → provider_verdict key algorithm message signature ≢ Err Memory
unfolding provider_verdict
never_memory key algorithm message signature h =
    either_never (permits key algorithm) (material_verdict key.material algorithm message signature) (refused algorithm) (material_never key.material algorithm message signature) (refused_never algorithm) h
