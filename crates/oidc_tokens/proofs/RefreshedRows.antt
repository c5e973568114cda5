-- The rows of an ID token that comes with refreshed tokens, one after the other, are those of its acceptance.
use Rattle.std.proofs.Common.{◌≡◌, ℕ, ℤ, Bool, true, false, List, [], ◌∷◌, Option, None, Some, refl, sym, ap, subst, ◌∙◌}
use Rattle.std.specs.Prelude.{Result, Ok, All, Contains, option_map}
use Rattle.std.specs.List.{list_all}
use Rattle.std.specs.Option.{ok_or}
use Rattle.std.specs.Ordering.{int_eq}
use Rattle.std.specs.Str.{bytes_eq}
use Rattle.std.proofs.lemmas.Bool.{and_parts, and_from, true≢false, false≢true}
use Rattle.std.proofs.lemmas.Bool.Decides.{Decides-int_eq}
use Rattle.std.proofs.lemmas.List.Elements.{All-weaker}
use Rattle.std.proofs.lemmas.List.Sums.{AllPass-from_list_all, list_all-from_AllPass}
use Rattle.oidc_types.specs.declared.signing_error.SigningError.{SigningError}
use Rattle.oidc_types.specs.declared.signing_error.SigningError.TheVariants.{UnsupportedAlg}
use Rattle.oidc_keys.specs.declared.refusals.SignatureVerificationError.{SignatureVerificationError}
use Rattle.oidc_jwt.specs.declared.header.JsonWebTokenAlgorithm.TheVariants as algorithm
use Rattle.oidc_tokens.specs.declared.verification.refusals.ClaimsVerificationError.{ClaimsVerificationError}
use Rattle.oidc_tokens.specs.declared.refreshed.RefreshedClaimsError.{RefreshedClaimsError}
use Rattle.oidc_tokens.specs.declared.refreshed.RefreshedClaimsError.TheVariants.{Claims, OtherIssuer, OtherSubject, OtherAudience, OtherAuthTime, OtherNonce, OtherAuthorizedParty, TokenHash}
use Rattle.oidc_jwt.specs.Tokens.{SeenToken}
use Rattle.oidc_id_token_claims.specs.IdTokenClaims.{SeenIdTokenClaims}
use Rattle.oidc_tokens.specs.Signatures.{KeyMeanings, SeenVerifier, key_for}
use Rattle.oidc_tokens.specs.Verification.{unless, first_refusal, first_failure}
use Rattle.oidc_tokens.specs.Hashes.{Hashing, hashing, hash_text}
use Rattle.oidc_tokens.specs.Refreshed.{any_nonce, HasSameMembers, IsOfSameSignIn, AcceptsRefreshed, is_there, is_kept, is_among, has_same_members, is_same_text, sign_in_failure, claim_failure, hash_failure, hashing_of, refreshed_failure, RefreshedFailsUnlessAccepted}
use Rattle.oidc_tokens.specs.RefreshedCauses.{IsChanged}
use Rattle.oidc_tokens.proofs.Accepted.{same_bytes, bytes_same, contains_found, found_contained, passes, all_six, six_back, accepts, accepted}

-- ---- one claim

pub same_int : (x y : ℤ) → int_eq x y ≡ true → x ≡ y
same_int x y h = (Decides-int_eq x y).0 h

pub int_same : (x y : ℤ) → x ≡ y → int_eq x y ≡ true
int_same x y h = (Decides-int_eq x y).1 h

kept : {A : Type 0} (same : A → A → Bool) → ((x y : A) → same x y ≡ true → x ≡ y) → (first new : Option A) → is_kept same first new ≡ true
    → (value : A) → new ≡ Some value → first ≡ Some value
kept same eq first None h value is = absurd cc
kept same eq None (Some new) h value is = absurd (false≢true h)
kept same eq (Some old) (Some new) h value is = ap Some (sym (eq new old h)) ∙ is

kept_back : {A : Type 0} (same : A → A → Bool) → ((x y : A) → x ≡ y → same x y ≡ true) → (first new : Option A)
    → ((value : A) → new ≡ Some value → first ≡ Some value) → is_kept same first new ≡ true
kept_back same eq first None h = refl
kept_back same eq first (Some new) h = ap (is_there same new) (h new refl) ∙ eq new new refl

pub changed : {A : Type 0} (same : A → A → Bool) → ((x y : A) → x ≡ y → same x y ≡ true) → (first new : Option A) → is_kept same first new ≡ false → IsChanged first new
changed same eq first None h = absurd (true≢false h)
changed same eq first (Some new) h = (new, refl, λ is. true≢false (sym (ap (is_there same new) is ∙ eq new new refl) ∙ h))

same_party : (first new : Option (List ℕ)) → is_same_text first new ≡ true → new ≡ first
same_party None None h = refl
same_party (Some old) None h = absurd (false≢true h)
same_party None (Some new) h = absurd (false≢true h)
same_party (Some old) (Some new) h = ap Some (same_bytes new old h)

of_itself : (text : Option (List ℕ)) → is_same_text text text ≡ true
of_itself None = refl
of_itself (Some text) = bytes_same text text refl

pub party_same : (first new : Option (List ℕ)) → new ≡ first → is_same_text first new ≡ true
party_same first new is = subst (λ text. is_same_text text new ≡ true) is (of_itself new)

-- ---- audiences

all_among : (audiences others : List (List ℕ)) → list_all (is_among audiences) others ≡ true → All (λ a. Contains audiences a) others
all_among audiences others h =
    All-weaker (λ a. is_among audiences a ≡ true) (λ a. Contains audiences a)
    (λ a e. contains_found (λ x. bytes_eq x a) a (λ x same. same_bytes x a same) audiences e) others (AllPass-from_list_all (is_among audiences) others h)

among_all : (audiences others : List (List ℕ)) → All (λ a. Contains audiences a) others → list_all (is_among audiences) others ≡ true
among_all audiences others all =
    list_all-from_AllPass (is_among audiences) others
    (All-weaker (λ a. Contains audiences a) (λ a. is_among audiences a ≡ true) (λ a e. found_contained (λ x. bytes_eq x a) a (bytes_same a a refl) audiences e) others all)

members : (first new : List (List ℕ)) → has_same_members first new ≡ true → HasSameMembers first new
members first new h =
    let parts = and_parts (list_all (is_among new) first) (list_all (is_among first) new) h in
    record { includes = all_among new first parts.0; no_other = all_among first new parts.1 }

pub members_back : (first new : List (List ℕ)) → HasSameMembers first new → has_same_members first new ≡ true
members_back first new is = and_from (list_all (is_among new) first) (list_all (is_among first) new) (among_all new first is.includes) (among_all first new is.no_other)

-- ---- the rows of section 12.2

module _ {AC GC : Type 0} (first new : SeenIdTokenClaims AC GC) where
  of_sign_in : sign_in_failure first new ≡ None → IsOfSameSignIn first new
  unfolding sign_in_failure
  of_sign_in h =
      let was = first.own in
      let is = new.own in
      let subject = new.standard_claims.subject in
      let six = all_six (unless (bytes_eq is.issuer.text was.issuer.text) OtherIssuer) (unless (bytes_eq subject first.standard_claims.subject) OtherSubject)
      (unless (has_same_members was.audiences is.audiences) OtherAudience) (unless (is_kept int_eq was.auth_time is.auth_time) OtherAuthTime)
      (unless (is_kept bytes_eq was.nonce is.nonce) OtherNonce) (unless (is_same_text was.authorized_party is.authorized_party) OtherAuthorizedParty) h in
      record {
        issuer = same_bytes is.issuer.text was.issuer.text (passes (bytes_eq is.issuer.text was.issuer.text) OtherIssuer six.0);
        subject = same_bytes subject first.standard_claims.subject (passes (bytes_eq subject first.standard_claims.subject) OtherSubject six.1);
        audience = members was.audiences is.audiences (passes (has_same_members was.audiences is.audiences) OtherAudience six.2);
        auth_time = kept int_eq same_int was.auth_time is.auth_time (passes (is_kept int_eq was.auth_time is.auth_time) OtherAuthTime six.3);
        nonce = kept bytes_eq same_bytes was.nonce is.nonce (passes (is_kept bytes_eq was.nonce is.nonce) OtherNonce six.4);
        authorized_party = same_party was.authorized_party is.authorized_party (passes (is_same_text was.authorized_party is.authorized_party) OtherAuthorizedParty six.5);
      }

  sign_in_back : IsOfSameSignIn first new → sign_in_failure first new ≡ None
  unfolding sign_in_failure
  sign_in_back same =
      let was = first.own in
      let is = new.own in
      six_back _ _ _ _ _ _ (
        ap (λ b. unless b OtherIssuer) (bytes_same is.issuer.text was.issuer.text same.issuer),
        ap (λ b. unless b OtherSubject) (bytes_same new.standard_claims.subject first.standard_claims.subject same.subject),
        ap (λ b. unless b OtherAudience) (members_back was.audiences is.audiences same.audience),
        ap (λ b. unless b OtherAuthTime) (kept_back int_eq int_same was.auth_time is.auth_time same.auth_time),
        ap (λ b. unless b OtherNonce) (kept_back bytes_eq bytes_same was.nonce is.nonce same.nonce),
        ap (λ b. unless b OtherAuthorizedParty) (party_same was.authorized_party is.authorized_party same.authorized_party),
      )

-- ---- the hash of the access token

claim_fits : (hash : Option (List ℕ)) (refusal : SigningError) (claim : List ℕ) → claim_failure claim (ok_or hash refusal) ≡ None → hash ≡ Some claim
claim_fits None refusal claim h = absurd cc
claim_fits (Some hash) refusal claim h = ap Some (same_bytes hash claim (passes (bytes_eq hash claim) TokenHash h))

claim_back : (hash : Option (List ℕ)) (refusal : SigningError) (claim : List ℕ) → hash ≡ Some claim → claim_failure claim (ok_or hash refusal) ≡ None
claim_back hash refusal claim is = subst (λ o. claim_failure claim (ok_or o refusal) ≡ None) (sym is) (ap (λ b. unless b TokenHash) (bytes_same claim claim refl))

module _ (by : Result Hashing SignatureVerificationError) (alg : List ℕ) (hash : Option (List ℕ → List ℕ)) (known : by ≡ Ok (hashing alg hash)) (access_token : List ℕ) where
  fits : (claimed : Option (List ℕ)) → hash_failure by access_token claimed ≡ None → (claim : List ℕ) → claimed ≡ Some claim → hash_text hash access_token ≡ Some claim
  fits None h claim is = absurd cc
  fits (Some x) h claim is = claim_fits (hash_text hash access_token) (UnsupportedAlg alg) x (subst (λ b. hash_failure b access_token (Some x) ≡ None) known h) ∙ is

  fits_back : (claimed : Option (List ℕ)) → ((claim : List ℕ) → claimed ≡ Some claim → hash_text hash access_token ≡ Some claim) → hash_failure by access_token claimed ≡ None
  fits_back None f = refl
  fits_back (Some x) f = subst (λ b. hash_failure b access_token (Some x) ≡ None) (sym known) (claim_back (hash_text hash access_token) (UnsupportedAlg alg) x (f x refl))

-- ---- all of them

all_three : (a b c : Option RefreshedClaimsError) → first_refusal (a ∷ b ∷ c ∷ []) ≡ None → (a ≡ None) × (b ≡ None) × (c ≡ None)
all_three None None None h = (refl, refl, refl)
all_three (Some x) b c h = absurd cc
all_three None (Some x) c h = absurd cc
all_three None None (Some x) h = absurd cc

three_back : (a b c : Option RefreshedClaimsError) → (a ≡ None) × (b ≡ None) × (c ≡ None) → first_refusal (a ∷ b ∷ c ∷ []) ≡ None
three_back a b c h = rw (h.0, h.1, h.2) refl

pub unmapped : (failure : Option ClaimsVerificationError) → option_map Claims failure ≡ None → failure ≡ None
unmapped None h = refl
unmapped (Some e) h = absurd cc

module _ {Key Use Algorithm Type' : Type 0} (k : KeyMeanings Key Use Algorithm Type') {JE AC GC : Type 0} where
  pub hashing_known : (v : SeenVerifier Key Algorithm) (token : SeenToken JE Algorithm (SeenIdTokenClaims AC GC)) (alg : Algorithm) (key : Key)
      → token.header.alg ≡ algorithm.Signature alg → key_for k v token.header.kid alg ≡ Ok key → hashing_of k v token ≡ Ok (hashing (k.algorithm_words.as_ref alg) (k.keys.hash_of key alg))
  hashing_known v token alg key signed chosen = rw (signed, chosen) refl

  pub refreshed_accepts : (v : SeenVerifier Key Algorithm) (now : ℤ) (first : SeenIdTokenClaims AC GC) (access_token : List ℕ) (token : SeenToken JE Algorithm (SeenIdTokenClaims AC GC))
      → refreshed_failure k v now first access_token token ≡ None → AcceptsRefreshed k v now first access_token token
  unfolding refreshed_failure
  refreshed_accepts v now first access_token token h =
      let claimed = token.payload.own.access_token_hash in
      let by = hashing_of k v token in
      let three = all_three (option_map Claims (first_failure k v any_nonce now token)) (sign_in_failure first token.payload) (hash_failure by access_token claimed) h in
      let taken = accepts k v any_nonce now token (unmapped (first_failure k v any_nonce now token) three.0) in
      record {
        accepted = taken;
        same = of_sign_in first token.payload three.1;
        hash = fits by (k.algorithm_words.as_ref taken.alg) (k.keys.hash_of taken.key taken.alg) (hashing_known v token taken.alg taken.key taken.signed taken.chosen) access_token claimed three.2;
      }

  pub refreshed_accepted : (v : SeenVerifier Key Algorithm) (now : ℤ) (first : SeenIdTokenClaims AC GC) (access_token : List ℕ) (token : SeenToken JE Algorithm (SeenIdTokenClaims AC GC))
      → AcceptsRefreshed k v now first access_token token → refreshed_failure k v now first access_token token ≡ None
  unfolding refreshed_failure
  refreshed_accepted v now first access_token token a =
      let taken = a.accepted in
      let by = hashing_of k v token in
      three_back _ _ _ (
        ap (option_map Claims) (accepted k v any_nonce now token taken),
        sign_in_back first token.payload a.same,
        fits_back by (k.algorithm_words.as_ref taken.alg) (k.keys.hash_of taken.key taken.alg) (hashing_known v token taken.alg taken.key taken.signed taken.chosen) access_token token.payload.own.access_token_hash a.hash,
      )

  pub refreshed_fails_unless_accepted : RefreshedFailsUnlessAccepted k JE AC GC
  refreshed_fails_unless_accepted v now first access_token token =
      (refreshed_accepts v now first access_token token, refreshed_accepted v now first access_token token)
