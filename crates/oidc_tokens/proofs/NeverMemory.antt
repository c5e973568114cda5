-- No check of an ID token, or of a user info answer that is a token, fails for want of memory.
use Rattle.std.proofs.Common.{◌≢◌, ℕ, ℤ, Bool, true, false, List, [], ◌∷◌, Option, Some, ⊎_elim}
use Rattle.std.specs.Prelude.{Result, Ok, Err, int_lt}
use Rattle.std.specs.Str.{bytes_eq}
use Rattle.oidc_keys.specs.declared.refusals.SignatureVerificationError.{SignatureVerificationError}
use Rattle.oidc_keys.specs.declared.refusals.SignatureVerificationError.TheVariants as signature
use Rattle.oidc_tokens.specs.declared.verification.refusals.ClaimsVerificationError.TheVariants.{Unsupported, InvalidIssuer, InvalidAudience, SignatureVerification, Expired, InvalidNonce, InvalidSubject, Memory}
use Rattle.oidc_jwt.specs.Tokens.{SeenToken}
use Rattle.oidc_id_token_claims.specs.IdTokenClaims.{SeenIdTokenClaims}
use Rattle.oidc_tokens.specs.Signatures.{KeyMeanings, SeenVerifier, verdict_on}
use Rattle.oidc_tokens.specs.Verification.{is_supported, is_alone_in, unless, refused_as, first_refusal, first_failure}
use Rattle.oidc_tokens.specs.UserInfoVerification.{SeenUserInfoVerifier, Parties, without_secret, passes_issuer, passes_audience, is_expected_subject, first_info_failure}
use Rattle.oidc_tokens.proofs.Causes.{failure_cause}
use Rattle.oidc_tokens.proofs.UserInfo.{info_failure_cause}

never_by : (supported same alone : Bool) (said : Result (Unit {0}) SignatureVerificationError) (unexpired allowed : Bool)
    → first_refusal (unless supported Unsupported ∷ unless same InvalidIssuer ∷ unless alone InvalidAudience ∷ refused_as SignatureVerification said ∷ unless unexpired Expired ∷ unless allowed InvalidNonce ∷ []) ≢ Some Memory
never_by false same alone said unexpired allowed = λ e. cc
never_by true false alone said unexpired allowed = λ e. cc
never_by true true false said unexpired allowed = λ e. cc
never_by true true true (Err refusal) unexpired allowed = λ e. cc
never_by true true true (Ok u) false allowed = λ e. cc
never_by true true true (Ok u) true false = λ e. cc
never_by true true true (Ok u) true true = λ e. cc

module _ {Key Use Algorithm Type' : Type 0} (k : KeyMeanings Key Use Algorithm Type') {JE AC GC : Type 0} where
  pub never_memory : (v : SeenVerifier Key Algorithm) (allows : Option (List ℕ) → Bool) (now : ℤ) (token : SeenToken JE Algorithm (SeenIdTokenClaims AC GC)) → first_failure k v allows now token ≢ Some Memory
  unfolding first_failure
  never_memory v allows now token =
      let own = token.payload.own in
      never_by (is_supported token.header) (bytes_eq own.issuer.text v.issuer.text) (is_alone_in v.client_id own.audiences) (verdict_on k v token) (int_lt now own.expiration) (allows own.nonce)

  -- where no verdict of a key is want of memory
  pub never_memory_inside : ((key : Key) (alg : Algorithm) (message made : List ℕ) → k.keys.verdict key alg message made ≢ Err signature.Memory)
      → (v : SeenVerifier Key Algorithm) (allows : Option (List ℕ) → Bool) (now : ℤ) (token : SeenToken JE Algorithm (SeenIdTokenClaims AC GC))
      → first_failure k v allows now token ≢ Some (SignatureVerification signature.Memory)
  never_memory_inside law v allows now token = λ h.
      ⊎_elim (λ at_fault. at_fault) (λ says. law says.1 says.0 token.message token.signature says.4) (failure_cause k v allows now token (SignatureVerification signature.Memory) h)

-- ---- user info

info_never_by : (supported issuer audience : Bool) (said : Result (Unit {0}) SignatureVerificationError) (about : Bool)
    → first_refusal (unless supported Unsupported ∷ unless issuer InvalidIssuer ∷ unless audience InvalidAudience ∷ refused_as SignatureVerification said ∷ unless about InvalidSubject ∷ []) ≢ Some Memory
info_never_by false issuer audience said about = λ e. cc
info_never_by true false audience said about = λ e. cc
info_never_by true true false said about = λ e. cc
info_never_by true true true (Err refusal) about = λ e. cc
info_never_by true true true (Ok u) false = λ e. cc
info_never_by true true true (Ok u) true = λ e. cc

module _ {Key Use Algorithm Type' : Type 0} (k : KeyMeanings Key Use Algorithm Type') {JE P : Type 0} where
  pub info_never_memory : (v : SeenUserInfoVerifier Key) (token : SeenToken JE Algorithm P) (named : Parties) → first_info_failure k v token named ≢ Some Memory
  unfolding first_info_failure
  info_never_memory v token named =
      info_never_by (is_supported token.header) (passes_issuer v named.issuer) (passes_audience v named.audiences) (verdict_on k (without_secret v) token) (is_expected_subject v.expected_subject named.subject)

  pub info_never_memory_inside : ((key : Key) (alg : Algorithm) (message made : List ℕ) → k.keys.verdict key alg message made ≢ Err signature.Memory)
      → (v : SeenUserInfoVerifier Key) (token : SeenToken JE Algorithm P) (named : Parties)
      → first_info_failure k v token named ≢ Some (SignatureVerification signature.Memory)
  info_never_memory_inside law v token named = λ h.
      ⊎_elim (λ at_fault. at_fault) (λ says. law says.1 says.0 token.message token.signature says.4) (info_failure_cause k v token named (SignatureVerification signature.Memory) h)
