-- Under which key a signature is accepted, where a client has a secret and its provider has keys of RSA: neither is taken for the
-- other (RFC 8725 section 2.1, OpenID Connect Core 1.0 section 10.1).
use Rattle.std.specs.Prelude.{◌≡◌, ℕ, List, filter, IsTrue, false, Option, Some, Ok}
use Rattle.oidc_types.specs.{signs_with_secret}
use Rattle.oidc_types.specs.declared.core_algorithms.CoreJsonWebKeyType.{CoreJsonWebKeyType}
use Rattle.oidc_types.specs.declared.core_algorithms.CoreJwsSigningAlgorithm.{CoreJwsSigningAlgorithm}
use Rattle.oidc_types.specs.contracts.core_algorithms.CoreJwsSigningAlgorithmJwsSigningAlgorithm.TheImpl.{ghosts as of_algorithms}
use Rattle.oidc_types.specs.contracts.core_algorithms.CoreJwsSigningAlgorithmClosedVocabulary.TheImpl.{ghosts as of_algorithm_words}
use Rattle.oidc_types.specs.contracts.core_algorithms.CoreJsonWebKeyTypeClosedVocabulary.TheImpl.{ghosts as of_type_words}
use Rattle.oidc_keys.specs.declared.core_jwk.CoreJsonWebKeyUse.{CoreJsonWebKeyUse}
use Rattle.oidc_keys.specs.contracts.core_jwk.CoreJsonWebKeyUseJsonWebKeyUse.TheImpl.{ghosts as of_uses}
use Rattle.oidc_rsa.specs.contracts.provider_key.ProviderKeyJsonWebKey.TheImpl.{ghosts as of_keys}
use Rattle.oidc_rsa.specs.ProviderKey.{SeenProviderKey, provider_verdict}
use Rattle.oidc_rsa.specs.Confusion.{IsMacUnderSecret, IsSignedByRsa}
use Rattle.oidc_tokens.specs.Signatures.{KeyMeanings, SeenVerifier, meanings, fits, key_for, the_one}

-- what is known of a provider's keys
abbrev pub provider_keys : KeyMeanings SeenProviderKey CoreJsonWebKeyUse CoreJwsSigningAlgorithm CoreJsonWebKeyType
provider_keys = meanings of_keys of_uses of_algorithms of_algorithm_words of_type_words

abbrev pub ProviderVerifier : Type 0
ProviderVerifier = SeenVerifier SeenProviderKey CoreJwsSigningAlgorithm

-- a verifier accepts the signature of a token whose header names this algorithm, and a key or none
pub record IsTaken (v : ProviderVerifier) (kid : Option (List ℕ)) (algorithm : CoreJwsSigningAlgorithm)
    (message signature : List ℕ) : Type 0 where
  pub key : SeenProviderKey
  pub by_key : key_for provider_keys v kid algorithm ≡ Ok key
  pub accepted : provider_verdict key algorithm message signature ≡ Ok tt

pub record SecretAndKeysApart : Type 0 where
  -- what is accepted by an algorithm of a shared secret is the MAC under the client's own secret, whatever keys the
  -- provider has
  pub by_secret : (v : ProviderVerifier) (kid : Option (List ℕ)) (algorithm : CoreJwsSigningAlgorithm)
      (message signature : List ℕ) → IsTrue (signs_with_secret algorithm)
      → (taken : IsTaken v kid algorithm message signature)
      → (v.secret_key ≡ Some taken.key) × IsMacUnderSecret taken.key algorithm message signature
  -- what is accepted by another is signed by RSA under the one key of the provider that fits, whatever the secret is
  pub by_rsa : (v : ProviderVerifier) (kid : Option (List ℕ)) (algorithm : CoreJwsSigningAlgorithm)
      (message signature : List ℕ) → signs_with_secret algorithm ≡ false
      → (taken : IsTaken v kid algorithm message signature)
      → (the_one (filter (fits provider_keys algorithm kid) v.keys) ≡ Ok taken.key)
      × IsSignedByRsa taken.key algorithm message signature
