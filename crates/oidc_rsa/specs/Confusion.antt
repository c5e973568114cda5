-- That keys are not taken for one another: a public key is no secret (RFC 8725 section 2.1).
use Rattle.std.specs.Prelude.{◌≡◌, ℕ, List, IsTrue, false, Some, Ok, Err}
use Rattle.oidc_types.specs.{signs_with_secret}
use Rattle.oidc_types.specs.declared.core_algorithms.CoreJwsSigningAlgorithm.{CoreJwsSigningAlgorithm}
use Rattle.oidc_keys.specs.declared.refusals.SignatureVerificationError.TheVariants.{InvalidKey}
use Rattle.oidc_keys.specs.CoreJwk.{symmetric_verdict, IsMac}
use Rattle.oidc_rsa.specs.declared.algorithm.RsaAlgorithm.{RsaAlgorithm}
use Rattle.oidc_rsa.specs.Key.{PublicKey}
use Rattle.oidc_rsa.specs.Signature.{is_signature}
use Rattle.oidc_rsa.specs.ProviderKey.{KeyMaterial, Rsa, Secret, SeenProviderKey, bare, rsa_algorithm_of, provider_verdict}

-- a secret verifies the MAC under its octets alone
pub record IsMacUnderSecret (key : SeenProviderKey) (algorithm : CoreJwsSigningAlgorithm)
    (message signature : List ℕ) : Type 0 where
  pub octets : List ℕ
  pub secret : key.material ≡ Secret octets
  pub mac : IsMac octets algorithm message signature

-- a public key verifies what is signed by RSA alone
pub record IsSignedByRsa (key : SeenProviderKey) (algorithm : CoreJwsSigningAlgorithm)
    (message signature : List ℕ) : Type 0 where
  pub public : PublicKey
  pub rsa : key.material ≡ Rsa public
  pub by : RsaAlgorithm
  pub algorithm_is : rsa_algorithm_of algorithm ≡ Some by
  pub signed : IsTrue (is_signature public by message signature)

pub record NoAlgorithmConfusion : Type 0 where
  -- what any key accepts by an algorithm of a shared secret is the MAC under that key's secret
  pub by_secret : (key : SeenProviderKey) (algorithm : CoreJwsSigningAlgorithm) (message signature : List ℕ)
      → IsTrue (signs_with_secret algorithm) → provider_verdict key algorithm message signature ≡ Ok tt
      → IsMacUnderSecret key algorithm message signature
  -- what any key accepts by another is signed by RSA, under that key's modulus and exponent
  pub by_rsa : (key : SeenProviderKey) (algorithm : CoreJwsSigningAlgorithm) (message signature : List ℕ)
      → signs_with_secret algorithm ≡ false → provider_verdict key algorithm message signature ≡ Ok tt
      → IsSignedByRsa key algorithm message signature
  -- under a public key no octets are a MAC: it is refused before the signature is looked at
  pub no_public_secret : (key : SeenProviderKey) (public : PublicKey) (algorithm : CoreJwsSigningAlgorithm)
      (message signature : List ℕ) → key.material ≡ Rsa public → IsTrue (signs_with_secret algorithm)
      → provider_verdict key algorithm message signature ≡ Err InvalidKey
  -- a client's secret, as a key, says what the symmetric key of these octets says
  pub client_secret : (octets : List ℕ) (algorithm : CoreJwsSigningAlgorithm) (message signature : List ℕ)
      → provider_verdict (bare (Secret octets)) algorithm message signature
      ≡ symmetric_verdict octets algorithm message signature
