-- The first row that fails of an ID token that comes with refreshed tokens, by its cause.
use Rattle.std.proofs.Common.{◌≡◌, ◌≢◌, ℕ, ℤ, Bool, true, false, List, [], ◌∷◌, Option, None, Some, refl, sym, ap, subst, ◌∙◌}
use Rattle.std.specs.Prelude.{option_map}
use Rattle.std.specs.Ordering.{int_eq}
use Rattle.std.specs.Str.{bytes_eq}
use Rattle.std.proofs.lemmas.Bool.{true≢false}
use Rattle.oidc_types.specs.declared.signing_error.SigningError.TheVariants.{UnsupportedAlg}
use Rattle.oidc_jwt.specs.Issuing.{encoded}
use Rattle.oidc_tokens.specs.declared.verification.refusals.ClaimsVerificationError.{ClaimsVerificationError}
use Rattle.oidc_tokens.specs.declared.verification.refusals.ClaimsVerificationError.TheVariants as check
use Rattle.oidc_tokens.specs.declared.refreshed.RefreshedClaimsError.{RefreshedClaimsError}
use Rattle.oidc_tokens.specs.declared.refreshed.RefreshedClaimsError.TheVariants.{Claims, OtherIssuer, OtherSubject, OtherAudience, OtherAuthTime, OtherNonce, OtherAuthorizedParty, Signing, TokenHash}
use Rattle.oidc_jwt.specs.Tokens.{SeenToken}
use Rattle.oidc_id_token_claims.specs.IdTokenClaims.{SeenIdTokenClaims}
use Rattle.oidc_tokens.specs.Signatures.{KeyMeanings, SeenVerifier}
use Rattle.oidc_tokens.specs.Verification.{Accepts, unless, first_refusal, first_failure}
use Rattle.oidc_tokens.specs.Causes.{Cause}
use Rattle.oidc_tokens.specs.Hashes.{hashing, hash_text, hash_or_refusal, left_half}
use Rattle.oidc_tokens.specs.Refreshed.{any_nonce, is_kept, has_same_members, is_same_text, sign_in_failure, claim_failure, hash_failure, hashing_of, refreshed_failure}
use Rattle.oidc_tokens.specs.RefreshedCauses.{ClaimsHash, RefreshedCause}
use Rattle.oidc_tokens.proofs.Accepted.{bytes_same, accepts}
use Rattle.oidc_tokens.proofs.Causes.{same_some, differ, failure_cause}
use Rattle.oidc_tokens.proofs.NeverMemory.{never_memory}
use Rattle.oidc_tokens.proofs.RefreshedRows.{int_same, changed, party_same, members_back, unmapped, hashing_known}

-- ---- which row it is

row : (Fact : RefreshedClaimsError → Type 0) (holds : Bool) (refusal e : RefreshedClaimsError) → unless holds refusal ≡ Some e → (holds ≡ false → Fact refusal) → Fact e
row Fact true refusal e h fact = absurd cc
row Fact false refusal e h fact = subst Fact (same_some refusal e h) (fact refl)

one_of_three : (Fact : RefreshedClaimsError → Type 0) (a b c : Option RefreshedClaimsError) (e : RefreshedClaimsError) → first_refusal (a ∷ b ∷ c ∷ []) ≡ Some e
    → (a ≡ Some e → Fact e) → (b ≡ Some e → Fact e) → (a ≡ None → c ≡ Some e → Fact e) → Fact e
one_of_three Fact (Some x) b c e h in_a in_b in_c = in_a h
one_of_three Fact None (Some x) c e h in_a in_b in_c = in_b h
one_of_three Fact None None c e h in_a in_b in_c = in_c refl h

one_of_six : (Fact : RefreshedClaimsError → Type 0) (a b c d e f : Option RefreshedClaimsError) (x : RefreshedClaimsError) → first_refusal (a ∷ b ∷ c ∷ d ∷ e ∷ f ∷ []) ≡ Some x
    → (a ≡ Some x → Fact x) → (b ≡ Some x → Fact x) → (c ≡ Some x → Fact x) → (d ≡ Some x → Fact x) → (e ≡ Some x → Fact x) → (f ≡ Some x → Fact x) → Fact x
one_of_six Fact (Some y) b c d e f x h in_a in_b in_c in_d in_e in_f = in_a h
one_of_six Fact None (Some y) c d e f x h in_a in_b in_c in_d in_e in_f = in_b h
one_of_six Fact None None (Some y) d e f x h in_a in_b in_c in_d in_e in_f = in_c h
one_of_six Fact None None None (Some y) e f x h in_a in_b in_c in_d in_e in_f = in_d h
one_of_six Fact None None None None (Some y) f x h in_a in_b in_c in_d in_e in_f = in_e h
one_of_six Fact None None None None None f x h in_a in_b in_c in_d in_e in_f = in_f h

module _ {Key Use Algorithm Type' : Type 0} (k : KeyMeanings Key Use Algorithm Type') {JE AC GC : Type 0}
    (v : SeenVerifier Key Algorithm) (now : ℤ) (first : SeenIdTokenClaims AC GC) (access_token : List ℕ)
    (token : SeenToken JE Algorithm (SeenIdTokenClaims AC GC)) where
  abbrev Why : RefreshedClaimsError → Type 0
  Why e = RefreshedCause k v now first access_token token e

  -- ---- the verifier's

  kind_why : (e : ClaimsVerificationError) → e ≢ check.Memory → Cause k v any_nonce now token e → Why (Claims e)
  kind_why check.Memory other cause = absurd (other refl)
  kind_why check.Unsupported other cause = cause
  kind_why check.InvalidIssuer other cause = cause
  kind_why check.InvalidAudience other cause = cause
  kind_why (check.SignatureVerification refusal) other cause = cause
  kind_why check.Expired other cause = cause
  kind_why check.InvalidNonce other cause = cause
  kind_why check.InvalidSubject other cause = cause

  check_why : (failure : Option ClaimsVerificationError) → first_failure k v any_nonce now token ≡ failure → (e : RefreshedClaimsError) → option_map Claims failure ≡ Some e → Why e
  check_why None is e h = absurd cc
  check_why (Some failed) is e h =
      subst Why (same_some (Claims failed) e h) (kind_why failed (λ memory. never_memory k v any_nonce now token (is ∙ ap Some memory)) (failure_cause k v any_nonce now token failed is))

  -- ---- those of section 12.2

  sign_in_why : (e : RefreshedClaimsError) → sign_in_failure first token.payload ≡ Some e → Why e
  unfolding sign_in_failure
  sign_in_why e h =
      let was = first.own in
      let is = token.payload.own in
      let subject = token.payload.standard_claims.subject in
      let first_subject = first.standard_claims.subject in
      one_of_six Why (unless (bytes_eq is.issuer.text was.issuer.text) OtherIssuer) (unless (bytes_eq subject first_subject) OtherSubject)
      (unless (has_same_members was.audiences is.audiences) OtherAudience) (unless (is_kept int_eq was.auth_time is.auth_time) OtherAuthTime)
      (unless (is_kept bytes_eq was.nonce is.nonce) OtherNonce) (unless (is_same_text was.authorized_party is.authorized_party) OtherAuthorizedParty) e h
      (λ w. row Why (bytes_eq is.issuer.text was.issuer.text) OtherIssuer e w (λ no. differ is.issuer.text was.issuer.text no))
      (λ w. row Why (bytes_eq subject first_subject) OtherSubject e w (λ no. differ subject first_subject no))
      (λ w. row Why (has_same_members was.audiences is.audiences) OtherAudience e w (λ no same. true≢false (sym (members_back was.audiences is.audiences same) ∙ no)))
      (λ w. row Why (is_kept int_eq was.auth_time is.auth_time) OtherAuthTime e w (λ no. changed int_eq int_same was.auth_time is.auth_time no))
      (λ w. row Why (is_kept bytes_eq was.nonce is.nonce) OtherNonce e w (λ no. changed bytes_eq bytes_same was.nonce is.nonce no))
      (λ w. row Why (is_same_text was.authorized_party is.authorized_party) OtherAuthorizedParty e w
      (λ no same. true≢false (sym (party_same was.authorized_party is.authorized_party same) ∙ no)))

  -- ---- those of `at_hash`

  claim_why : (claim : List ℕ) (alg : Algorithm) (key : Key) → ClaimsHash k v token claim alg key → (hash : Option (List ℕ → List ℕ)) → k.keys.hash_of key alg ≡ hash
      → (e : RefreshedClaimsError) → claim_failure claim (hash_or_refusal (hashing (k.algorithm_words.as_ref alg) hash) access_token) ≡ Some e → Why e
  claim_why claim alg key claims None is e h =
      subst Why (same_some (Signing (UnsupportedAlg (k.algorithm_words.as_ref alg))) e h) (record { claim = claim; alg = alg; key = key; claims = claims; none = is; named = refl })
  claim_why claim alg key claims (Some hash) is e h =
      let found = encoded (left_half (hash access_token)) in
      row Why (bytes_eq found claim) TokenHash e h
      (λ no. record { claim = claim; alg = alg; key = key; claims = claims; hash = found; is = ap (λ by. hash_text by access_token) is; another = λ same. true≢false (sym (bytes_same found claim (sym same)) ∙ no) })

  hash_why : Accepts k v any_nonce now token → (claimed : Option (List ℕ)) → token.payload.own.access_token_hash ≡ claimed
      → (e : RefreshedClaimsError) → hash_failure (hashing_of k v token) access_token claimed ≡ Some e → Why e
  hash_why taken None is e h = absurd cc
  hash_why taken (Some claim) is e h =
      claim_why claim taken.alg taken.key (record { there = is; signed = taken.signed; chosen = taken.chosen }) (k.keys.hash_of taken.key taken.alg) refl e
      (subst (λ by. hash_failure by access_token (Some claim) ≡ Some e) (hashing_known k v token taken.alg taken.key taken.signed taken.chosen) h)

  -- ---- all of them

  pub refreshed_why : (e : RefreshedClaimsError) → refreshed_failure k v now first access_token token ≡ Some e → Why e
  unfolding refreshed_failure
  refreshed_why e h =
      let failure = first_failure k v any_nonce now token in
      let claimed = token.payload.own.access_token_hash in
      one_of_three Why (option_map Claims failure) (sign_in_failure first token.payload) (hash_failure (hashing_of k v token) access_token claimed) e h
      (λ w. check_why failure refl e w) (λ w. sign_in_why e w)
      (λ none w. hash_why (accepts k v any_nonce now token (unmapped failure none)) claimed refl e w)
