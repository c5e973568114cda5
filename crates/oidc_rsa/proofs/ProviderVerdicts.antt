-- What each verdict of a provider's key rests on.
use Rattle.std.proofs.Common.{◌≡◌, ◌≢◌, ◌↔◌, ◌⊎◌, inl, inr, ℕ, Bool, true, false, nat_eq, List, Option, Some, None, refl, sym, ap, ◌∙◌, arith}
use Rattle.std.specs.Prelude.{Ok, Err, if◌then◌else◌}
use Rattle.std.specs.Bool.{Decides}
use Rattle.std.specs.Cmp.Lexicographic.{pointwise}
use Rattle.std.proofs.lemmas.Bool.Decides.{Decides-eqb}
use Rattle.std.proofs.lemmas.Slice.Eq.{slice_eq-Decides}
use Rattle.oidc_types.specs.{signing_key_type}
use Rattle.oidc_types.specs.declared.core_algorithms.CoreJsonWebKeyType.{CoreJsonWebKeyType}
use Rattle.oidc_types.specs.declared.core_algorithms.CoreJsonWebKeyType.TheVariants as kind
use Rattle.oidc_types.specs.declared.core_algorithms.CoreJwsSigningAlgorithm.{CoreJwsSigningAlgorithm}
use Rattle.oidc_types.specs.declared.core_algorithms.CoreJwsSigningAlgorithm.TheVariants as alg
use Rattle.oidc_keys.specs.declared.mac.HmacAlgorithm.{HmacAlgorithm}
use Rattle.oidc_keys.specs.declared.mac.HmacAlgorithm.TheVariants.{Sha256, Sha384, Sha512}
use Rattle.oidc_keys.specs.declared.refusals.SignatureVerificationError.TheVariants.{CryptoError, InvalidKey, UnsupportedAlg}
use Rattle.oidc_keys.specs.Jwk.{Verdict}
use Rattle.oidc_keys.specs.Mac.{mac_of}
use Rattle.oidc_keys.specs.CoreJwk.{compared, symmetric_verdict, IsMac, IsOtherThanMac}
use Rattle.oidc_rsa.specs.declared.algorithm.RsaAlgorithm.{RsaAlgorithm}
use Rattle.oidc_rsa.specs.declared.algorithm.RsaAlgorithm.TheVariants.{Rs256, Rs384, Rs512, Ps256, Ps384, Ps512}
use Rattle.oidc_rsa.specs.Key.{PublicKey}
use Rattle.oidc_rsa.specs.Signature.{is_signature}
use Rattle.oidc_rsa.specs.ProviderKey.{KeyMaterial, Rsa, Secret, SeenProviderKey, type_of, rsa_algorithm_of, permits, judged, refused, rsa_verdict, material_verdict, provider_verdict, IsSignatureUnder, IsNoSignatureUnder, Verifies, Disproves, NeedsOtherKey}

-- ---- a verdict and its four causes

pub record Meant (verdict : Verdict) (Accepted Denied Unfit Unsigned : Type 0) : Type 0 where
  pub ok : (verdict ≡ Ok tt) ↔ Accepted
  pub crypto_error : (verdict ≡ Err CryptoError) ↔ Denied
  pub invalid_key : (verdict ≡ Err InvalidKey) ↔ Unfit
  pub unsupported_alg : (verdict ≡ Err UnsupportedAlg) ↔ Unsigned

means_ok : {Accepted Denied Unfit Unsigned : Type 0} → Accepted → ¬ Denied → ¬ Unfit → ¬ Unsigned → Meant (Ok tt) Accepted Denied Unfit Unsigned
means_ok holds b c d = record {
  ok = (λ h. holds, λ x. refl);
  crypto_error = (λ h. absurd (cc), λ x. absurd (b x));
  invalid_key = (λ h. absurd (cc), λ x. absurd (c x));
  unsupported_alg = (λ h. absurd (cc), λ x. absurd (d x));
}

means_crypto_error : {Accepted Denied Unfit Unsigned : Type 0} → ¬ Accepted → Denied → ¬ Unfit → ¬ Unsigned → Meant (Err CryptoError) Accepted Denied Unfit Unsigned
means_crypto_error a holds c d = record {
  ok = (λ h. absurd (cc), λ x. absurd (a x));
  crypto_error = (λ h. holds, λ x. refl);
  invalid_key = (λ h. absurd (cc), λ x. absurd (c x));
  unsupported_alg = (λ h. absurd (cc), λ x. absurd (d x));
}

means_invalid_key : {Accepted Denied Unfit Unsigned : Type 0} → ¬ Accepted → ¬ Denied → Unfit → ¬ Unsigned → Meant (Err InvalidKey) Accepted Denied Unfit Unsigned
means_invalid_key a b holds d = record {
  ok = (λ h. absurd (cc), λ x. absurd (a x));
  crypto_error = (λ h. absurd (cc), λ x. absurd (b x));
  invalid_key = (λ h. holds, λ x. refl);
  unsupported_alg = (λ h. absurd (cc), λ x. absurd (d x));
}

means_unsupported_alg : {Accepted Denied Unfit Unsigned : Type 0} → ¬ Accepted → ¬ Denied → ¬ Unfit → Unsigned → Meant (Err UnsupportedAlg) Accepted Denied Unfit Unsigned
means_unsupported_alg a b c holds = record {
  ok = (λ h. absurd (cc), λ x. absurd (a x));
  crypto_error = (λ h. absurd (cc), λ x. absurd (b x));
  invalid_key = (λ h. absurd (cc), λ x. absurd (c x));
  unsupported_alg = (λ h. holds, λ x. refl);
}

-- the algorithm has a type of key that isn't this one
abbrev IsOfOtherType : CoreJsonWebKeyType → CoreJwsSigningAlgorithm → Type 0
IsOfOtherType type algorithm = (needed : CoreJsonWebKeyType) × (signing_key_type algorithm ≡ Some needed) × (needed ≢ type)

-- ---- a secret

abbrev IsMacBy : Option HmacAlgorithm → List ℕ → List ℕ → List ℕ → Type 0
IsMacBy found octets message signature = (hash : HmacAlgorithm) × (found ≡ Some hash) × (signature ≡ mac_of hash octets message)

abbrev IsNoMacBy : Option HmacAlgorithm → List ℕ → List ℕ → List ℕ → Type 0
IsNoMacBy found octets message signature = (hash : HmacAlgorithm) × (found ≡ Some hash) × (signature ≢ mac_of hash octets message)

abbrev Needs : Option CoreJsonWebKeyType → CoreJsonWebKeyType → Type 0
Needs wanted type = (needed : CoreJsonWebKeyType) × (wanted ≡ Some needed) × (needed ≢ type)

same_some : {A : Type 0} {a b : A} → Some a ≡ Some b → a ≡ b
same_some h = cc

not_needed : (type : CoreJsonWebKeyType) → ¬ Needs (Some type) type
not_needed type x = x.2 (sym (same_some x.1))

mac_judged : (hash : HmacAlgorithm) (octets message signature : List ℕ) (same : Bool) → Decides same (signature ≡ mac_of hash octets message) → Meant (if same then Ok tt else Err CryptoError) (IsMacBy (Some hash) octets message signature) (IsNoMacBy (Some hash) octets message signature) (Needs (Some kind.Symmetric) kind.Symmetric) (Some kind.Symmetric ≡ None)
mac_judged hash octets message signature true decides =
    means_ok (hash, refl, decides.0 refl)
    (λ x. x.2 (decides.0 refl ∙ ap (λ by. mac_of by octets message) (same_some x.1)))
    (not_needed kind.Symmetric) (λ e. cc)
mac_judged hash octets message signature false decides =
    means_crypto_error
    (λ x. let e : false ≡ true = decides.1 (x.2 ∙ ap (λ by. mac_of by octets message) (sym (same_some x.1))) in cc)
    (hash, refl, λ e. let f : false ≡ true = decides.1 e in cc)
    (not_needed kind.Symmetric) (λ e. cc)

mac_meant : (hash : HmacAlgorithm) (octets message signature : List ℕ) → Meant (compared (mac_of hash octets message) signature) (IsMacBy (Some hash) octets message signature) (IsNoMacBy (Some hash) octets message signature) (Needs (Some kind.Symmetric) kind.Symmetric) (Some kind.Symmetric ≡ None)
mac_meant hash octets message signature =
    mac_judged hash octets message signature (pointwise nat_eq signature (mac_of hash octets message))
    (slice_eq-Decides Decides-eqb signature (mac_of hash octets message) (pointwise nat_eq signature (mac_of hash octets message)) refl)

-- of an algorithm that is no HMAC
no_mac : (octets message signature : List ℕ) (needed : CoreJsonWebKeyType) → needed ≢ kind.Symmetric → Meant (Err InvalidKey) (IsMacBy None octets message signature) (IsNoMacBy None octets message signature) (Needs (Some needed) kind.Symmetric) (Some needed ≡ None)
no_mac octets message signature needed other =
    means_invalid_key (λ x. let e = x.1 in cc) (λ x. let e = x.1 in cc) (needed, refl, other) (λ e. cc)

symmetric_meant : (octets : List ℕ) (algorithm : CoreJwsSigningAlgorithm) (message signature : List ℕ) → Meant (symmetric_verdict octets algorithm message signature) (IsMac octets algorithm message signature) (IsOtherThanMac octets algorithm message signature) (IsOfOtherType kind.Symmetric algorithm) (signing_key_type algorithm ≡ None)
symmetric_meant octets alg.HmacSha256 message signature = mac_meant Sha256 octets message signature
symmetric_meant octets alg.HmacSha384 message signature = mac_meant Sha384 octets message signature
symmetric_meant octets alg.HmacSha512 message signature = mac_meant Sha512 octets message signature
symmetric_meant octets alg.RsaSsaPkcs1V15Sha256 message signature = no_mac octets message signature kind.RSA (λ e. cc)
symmetric_meant octets alg.RsaSsaPkcs1V15Sha384 message signature = no_mac octets message signature kind.RSA (λ e. cc)
symmetric_meant octets alg.RsaSsaPkcs1V15Sha512 message signature = no_mac octets message signature kind.RSA (λ e. cc)
symmetric_meant octets alg.RsaSsaPssSha256 message signature = no_mac octets message signature kind.RSA (λ e. cc)
symmetric_meant octets alg.RsaSsaPssSha384 message signature = no_mac octets message signature kind.RSA (λ e. cc)
symmetric_meant octets alg.RsaSsaPssSha512 message signature = no_mac octets message signature kind.RSA (λ e. cc)
symmetric_meant octets alg.EcdsaP256Sha256 message signature = no_mac octets message signature kind.EllipticCurve (λ e. cc)
symmetric_meant octets alg.EcdsaP384Sha384 message signature = no_mac octets message signature kind.EllipticCurve (λ e. cc)
symmetric_meant octets alg.EcdsaP521Sha512 message signature = no_mac octets message signature kind.EllipticCurve (λ e. cc)
symmetric_meant octets alg.EdDsa message signature = no_mac octets message signature kind.OctetKeyPair (λ e. cc)
symmetric_meant octets alg.None message signature =
    means_unsupported_alg (λ x. let e = x.1 in cc) (λ x. let e = x.1 in cc) (λ x. let e = x.1 in cc) refl

-- ---- a public key

abbrev IsSignedBy : PublicKey → Option RsaAlgorithm → List ℕ → List ℕ → Bool → Type 0
IsSignedBy key found message signature verdict = (by : RsaAlgorithm) × (found ≡ Some by) × (is_signature key by message signature ≡ verdict)

same_algorithm : (key : PublicKey) (a b : RsaAlgorithm) (message signature : List ℕ) (verdict : Bool) → is_signature key a message signature ≡ verdict → Some a ≡ Some b → is_signature key b message signature ≡ verdict
same_algorithm key a b message signature verdict said same =
    ap (λ by. is_signature key by message signature) (sym (same_some same)) ∙ said

signed_judged : (key : PublicKey) (by : RsaAlgorithm) (message signature : List ℕ) (verdict : Bool) → is_signature key by message signature ≡ verdict → Meant (judged verdict) (IsSignedBy key (Some by) message signature true) (IsSignedBy key (Some by) message signature false) (Needs (Some kind.RSA) kind.RSA) (Some kind.RSA ≡ None)
signed_judged key by message signature true said =
    means_ok (by, refl, said)
    (λ x. let e = same_algorithm key by x.0 message signature true said x.1 in let f = x.2 in cc)
    (not_needed kind.RSA) (λ e. cc)
signed_judged key by message signature false said =
    means_crypto_error
    (λ x. let e = same_algorithm key by x.0 message signature false said x.1 in let f = x.2 in cc)
    (by, refl, said) (not_needed kind.RSA) (λ e. cc)

signed_meant : (key : PublicKey) (by : RsaAlgorithm) (message signature : List ℕ) → Meant (judged (is_signature key by message signature)) (IsSignedBy key (Some by) message signature true) (IsSignedBy key (Some by) message signature false) (Needs (Some kind.RSA) kind.RSA) (Some kind.RSA ≡ None)
signed_meant key by message signature = signed_judged key by message signature (is_signature key by message signature) refl

-- by an algorithm that isn't RSA's
not_signed : (key : PublicKey) (message signature : List ℕ) (needed : CoreJsonWebKeyType) → needed ≢ kind.RSA → Meant (Err InvalidKey) (IsSignedBy key None message signature true) (IsSignedBy key None message signature false) (Needs (Some needed) kind.RSA) (Some needed ≡ None)
not_signed key message signature needed other =
    means_invalid_key (λ x. let e = x.1 in cc) (λ x. let e = x.1 in cc) (needed, refl, other) (λ e. cc)

rsa_meant : (key : PublicKey) (algorithm : CoreJwsSigningAlgorithm) (message signature : List ℕ) → Meant (rsa_verdict key algorithm message signature) (IsSignedBy key (rsa_algorithm_of algorithm) message signature true) (IsSignedBy key (rsa_algorithm_of algorithm) message signature false) (IsOfOtherType kind.RSA algorithm) (signing_key_type algorithm ≡ None)
rsa_meant key alg.RsaSsaPkcs1V15Sha256 message signature = signed_meant key Rs256 message signature
rsa_meant key alg.RsaSsaPkcs1V15Sha384 message signature = signed_meant key Rs384 message signature
rsa_meant key alg.RsaSsaPkcs1V15Sha512 message signature = signed_meant key Rs512 message signature
rsa_meant key alg.RsaSsaPssSha256 message signature = signed_meant key Ps256 message signature
rsa_meant key alg.RsaSsaPssSha384 message signature = signed_meant key Ps384 message signature
rsa_meant key alg.RsaSsaPssSha512 message signature = signed_meant key Ps512 message signature
rsa_meant key alg.HmacSha256 message signature = not_signed key message signature kind.Symmetric (λ e. cc)
rsa_meant key alg.HmacSha384 message signature = not_signed key message signature kind.Symmetric (λ e. cc)
rsa_meant key alg.HmacSha512 message signature = not_signed key message signature kind.Symmetric (λ e. cc)
rsa_meant key alg.EcdsaP256Sha256 message signature = not_signed key message signature kind.EllipticCurve (λ e. cc)
rsa_meant key alg.EcdsaP384Sha384 message signature = not_signed key message signature kind.EllipticCurve (λ e. cc)
rsa_meant key alg.EcdsaP521Sha512 message signature = not_signed key message signature kind.EllipticCurve (λ e. cc)
rsa_meant key alg.EdDsa message signature = not_signed key message signature kind.OctetKeyPair (λ e. cc)
rsa_meant key alg.None message signature =
    means_unsupported_alg (λ x. let e = x.1 in cc) (λ x. let e = x.1 in cc) (λ x. let e = x.1 in cc) refl

-- ---- either, and what the key says of itself

material_meant : (material : KeyMaterial) (algorithm : CoreJwsSigningAlgorithm) (message signature : List ℕ) → Meant (material_verdict material algorithm message signature) (IsSignatureUnder material algorithm message signature) (IsNoSignatureUnder material algorithm message signature) (IsOfOtherType (type_of material) algorithm) (signing_key_type algorithm ≡ None)
material_meant (Rsa key) algorithm message signature = rsa_meant key algorithm message signature
material_meant (Secret octets) algorithm message signature = symmetric_meant octets algorithm message signature

-- the algorithm has a type of key, and it is another, or the key isn't for it
abbrev IsUnfit : CoreJsonWebKeyType → CoreJwsSigningAlgorithm → Bool → Type 0
IsUnfit type algorithm permitted = (needed : CoreJsonWebKeyType) × (signing_key_type algorithm ≡ Some needed) × ((needed ≢ type) ⊎ (permitted ≡ false))

permitted_meant : {Accepted Denied : Type 0} (verdict : Verdict) (type : CoreJsonWebKeyType) (algorithm : CoreJwsSigningAlgorithm) → Meant verdict Accepted Denied (IsOfOtherType type algorithm) (signing_key_type algorithm ≡ None) → Meant verdict ((true ≡ true) × Accepted) ((true ≡ true) × Denied) (IsUnfit type algorithm true) (signing_key_type algorithm ≡ None)
permitted_meant verdict type algorithm meant = record {
  ok = (λ h. (refl, meant.ok.0 h), λ x. meant.ok.1 x.1);
  crypto_error = (λ h. (refl, meant.crypto_error.0 h), λ x. meant.crypto_error.1 x.1);
  invalid_key = (λ h. let x = meant.invalid_key.0 h in (x.0, x.1, inl x.2), λ x. meant.invalid_key.1 (x.0, x.1, elim x.2 [ inl other ↦ other | inr e ↦ absurd (cc) ]));
  unsupported_alg = meant.unsupported_alg;
}

refused_meant : {Accepted Denied : Type 0} (type : CoreJsonWebKeyType) (algorithm : CoreJwsSigningAlgorithm) → Meant (refused algorithm) ((false ≡ true) × Accepted) ((false ≡ true) × Denied) (IsUnfit type algorithm false) (signing_key_type algorithm ≡ None)
refused_meant type alg.None = means_unsupported_alg (λ x. let e = x.0 in cc) (λ x. let e = x.0 in cc) (λ x. let e = x.1 in cc) refl
refused_meant type alg.HmacSha256 = means_invalid_key (λ x. let e = x.0 in cc) (λ x. let e = x.0 in cc) (kind.Symmetric, refl, inr refl) (λ e. cc)
refused_meant type alg.HmacSha384 = means_invalid_key (λ x. let e = x.0 in cc) (λ x. let e = x.0 in cc) (kind.Symmetric, refl, inr refl) (λ e. cc)
refused_meant type alg.HmacSha512 = means_invalid_key (λ x. let e = x.0 in cc) (λ x. let e = x.0 in cc) (kind.Symmetric, refl, inr refl) (λ e. cc)
refused_meant type alg.EdDsa = means_invalid_key (λ x. let e = x.0 in cc) (λ x. let e = x.0 in cc) (kind.OctetKeyPair, refl, inr refl) (λ e. cc)
refused_meant type alg.EcdsaP256Sha256 = means_invalid_key (λ x. let e = x.0 in cc) (λ x. let e = x.0 in cc) (kind.EllipticCurve, refl, inr refl) (λ e. cc)
refused_meant type alg.EcdsaP384Sha384 = means_invalid_key (λ x. let e = x.0 in cc) (λ x. let e = x.0 in cc) (kind.EllipticCurve, refl, inr refl) (λ e. cc)
refused_meant type alg.EcdsaP521Sha512 = means_invalid_key (λ x. let e = x.0 in cc) (λ x. let e = x.0 in cc) (kind.EllipticCurve, refl, inr refl) (λ e. cc)
refused_meant type _ = means_invalid_key (λ x. let e = x.0 in cc) (λ x. let e = x.0 in cc) (kind.RSA, refl, inr refl) (λ e. cc)

said_meant : {Accepted Denied : Type 0} (permitted : Bool) (verdict : Verdict) (type : CoreJsonWebKeyType) (algorithm : CoreJwsSigningAlgorithm) → Meant verdict Accepted Denied (IsOfOtherType type algorithm) (signing_key_type algorithm ≡ None) → Meant (if permitted then verdict else refused algorithm) ((permitted ≡ true) × Accepted) ((permitted ≡ true) × Denied) (IsUnfit type algorithm permitted) (signing_key_type algorithm ≡ None)
said_meant true verdict type algorithm meant = permitted_meant verdict type algorithm meant
said_meant false verdict type algorithm meant = refused_meant type algorithm

pub verdict_meant : (key : SeenProviderKey) (algorithm : CoreJwsSigningAlgorithm) (message signature : List ℕ) → Meant (provider_verdict key algorithm message signature) (Verifies key algorithm message signature) (Disproves key algorithm message signature) (NeedsOtherKey key algorithm) (signing_key_type algorithm ≡ None)
unfolding provider_verdict
verdict_meant key algorithm message signature =
    said_meant (permits key algorithm) (material_verdict key.material algorithm message signature) (type_of key.material) algorithm (material_meant key.material algorithm message signature)
