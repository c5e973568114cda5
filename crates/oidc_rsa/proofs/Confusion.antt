-- Keys are not taken for one another.
use Rattle.std.proofs.Common.{◌≡◌, ◌≢◌, inl, ℕ, true, false, List, Some, None, refl, sym, ap, ◌∙◌}
use Rattle.std.specs.Prelude.{Ok, Err, IsTrue}
use Rattle.oidc_types.specs.{signing_key_type, signs_with_secret}
use Rattle.oidc_types.specs.declared.core_algorithms.CoreJsonWebKeyType.TheVariants as kind
use Rattle.oidc_types.specs.declared.core_algorithms.CoreJwsSigningAlgorithm.{CoreJwsSigningAlgorithm}
use Rattle.oidc_types.specs.declared.core_algorithms.CoreJwsSigningAlgorithm.TheVariants as alg
use Rattle.oidc_keys.specs.declared.refusals.SignatureVerificationError.TheVariants.{InvalidKey}
use Rattle.oidc_keys.specs.CoreJwk.{hmac_of, symmetric_verdict}
use Rattle.oidc_rsa.specs.Key.{PublicKey}
use Rattle.oidc_rsa.specs.ProviderKey.{KeyMaterial, Rsa, Secret, SeenProviderKey, bare, type_of, rsa_algorithm_of, provider_verdict, IsSignatureUnder}
use Rattle.oidc_rsa.specs.Confusion.{IsMacUnderSecret, IsSignedByRsa, NoAlgorithmConfusion}
use Rattle.oidc_rsa.proofs.ProviderVerdicts.{verdict_meant}

-- ---- the algorithms

shared_is_no_rsa : (algorithm : CoreJwsSigningAlgorithm) → signs_with_secret algorithm ≡ true → rsa_algorithm_of algorithm ≡ None
shared_is_no_rsa alg.HmacSha256 shared = refl
shared_is_no_rsa _ shared = cc

shared_needs_secret : (algorithm : CoreJwsSigningAlgorithm) → signs_with_secret algorithm ≡ true → signing_key_type algorithm ≡ Some kind.Symmetric
shared_needs_secret alg.HmacSha256 shared = refl
shared_needs_secret _ shared = cc

other_is_no_mac : (algorithm : CoreJwsSigningAlgorithm) → signs_with_secret algorithm ≡ false → hmac_of algorithm ≡ None
other_is_no_mac alg.None other = refl
other_is_no_mac _ other = cc

-- ---- what is accepted

under_secret : (key : SeenProviderKey) (material : KeyMaterial) (algorithm : CoreJwsSigningAlgorithm) (message signature : List ℕ) → key.material ≡ material → signs_with_secret algorithm ≡ true → IsSignatureUnder material algorithm message signature → IsMacUnderSecret key algorithm message signature
under_secret key (Rsa public) algorithm message signature is shared signed =
    let e = shared_is_no_rsa algorithm shared in let f = signed.1 in absurd (cc)
under_secret key (Secret octets) algorithm message signature is shared signed = record { octets = octets; secret = is; mac = signed }

under_rsa : (key : SeenProviderKey) (material : KeyMaterial) (algorithm : CoreJwsSigningAlgorithm) (message signature : List ℕ) → key.material ≡ material → signs_with_secret algorithm ≡ false → IsSignatureUnder material algorithm message signature → IsSignedByRsa key algorithm message signature
under_rsa key (Rsa public) algorithm message signature is other signed =
    record { public = public; rsa = is; by = signed.0; algorithm_is = signed.1; signed = signed.2 }
under_rsa key (Secret octets) algorithm message signature is other signed =
    let e = other_is_no_mac algorithm other in let f = signed.1 in absurd (cc)

-- ---- what is refused

not_of_rsa : (material : KeyMaterial) (public : PublicKey) → material ≡ Rsa public → kind.Symmetric ≢ type_of material
not_of_rsa material public is e = let f = e ∙ ap type_of is in cc

public_refuses : (key : SeenProviderKey) (public : PublicKey) (algorithm : CoreJwsSigningAlgorithm) (message signature : List ℕ) → key.material ≡ Rsa public → signs_with_secret algorithm ≡ true → provider_verdict key algorithm message signature ≡ Err InvalidKey
public_refuses key public algorithm message signature is shared =
    (verdict_meant key algorithm message signature).invalid_key.1
    (kind.Symmetric, shared_needs_secret algorithm shared, inl (not_of_rsa key.material public is))

secret_says : (octets : List ℕ) (algorithm : CoreJwsSigningAlgorithm) (message signature : List ℕ) → provider_verdict (bare (Secret octets)) algorithm message signature ≡ symmetric_verdict octets algorithm message signature
unfolding provider_verdict
secret_says octets algorithm message signature = refl

pub no_algorithm_confusion : NoAlgorithmConfusion
no_algorithm_confusion = record {
  by_secret = λ key algorithm message signature shared accepted. under_secret key key.material algorithm message signature refl shared ((verdict_meant key algorithm message signature).ok.0 accepted).1;
  by_rsa = λ key algorithm message signature other accepted. under_rsa key key.material algorithm message signature refl other ((verdict_meant key algorithm message signature).ok.0 accepted).1;
  no_public_secret = public_refuses;
  client_secret = secret_says;
}
