-- The ID token that comes with refreshed tokens, judged beside the first ID token of the sign-in and the access
-- token that came with it (OpenID Connect Core 1.0 sections 12.2, 3.1.3.6 and 3.1.3.7).
use Rattle.std.specs.Prelude.{◌≡◌, ℕ, ℤ, List, [], ◌∷◌, Bool, true, false, ◌&&◌, ◌↔◌, Option, None, Some, is_none, option_map, Result, Ok, Err, Contains, All}
use Rattle.std.specs.List.{list_any, list_all}
use Rattle.std.specs.Option.{option_map_or}
use Rattle.std.specs.Ordering.{int_eq}
use Rattle.std.specs.Str.{bytes_eq}
use Rattle.oidc_types.specs.declared.signing_error.SigningError.{SigningError}
use Rattle.oidc_keys.specs.declared.refusals.SignatureVerificationError.{SignatureVerificationError}
use Rattle.oidc_jwt.specs.Tokens.{SeenToken}
use Rattle.oidc_id_token_claims.specs.IdTokenClaims.{SeenIdTokenClaims}
use Rattle.oidc_tokens.specs.declared.verification.refusals.ClaimsVerificationError.{ClaimsVerificationError}
use Rattle.oidc_tokens.specs.declared.verification.refusals.ClaimsVerificationError.TheVariants as check
use Rattle.oidc_tokens.specs.declared.refreshed.RefreshedClaimsError.{RefreshedClaimsError}
use Rattle.oidc_tokens.specs.declared.refreshed.RefreshedClaimsError.TheVariants.{Claims, OtherIssuer, OtherSubject, OtherAudience, OtherAuthTime, OtherNonce, OtherAuthorizedParty, Signing, TokenHash, Memory}
use Rattle.oidc_tokens.specs.Steps.{◌>>=◌}
use Rattle.oidc_tokens.specs.Signatures.{KeyMeanings, SeenVerifier, signing_alg, checking_key}
use Rattle.oidc_tokens.specs.Verification.{Accepts, unless, first_refusal, first_failure}
use Rattle.oidc_tokens.specs.Hashes.{Hashing, hashing, hash_text, hash_or_refusal}

-- The verifier wants no nonce and takes any: a nonce is compared with the first one's instead.
abbrev pub any_nonce : Option (List ℕ) → Bool
any_nonce _ = true

-- ---- two ID tokens of one sign-in (section 12.2)

-- A value, where it is there, was there in the first ID token, the same.
abbrev pub IsKept : {A : Type 0} → Option A → Option A → Type 0
IsKept {A} first new = (value : A) → new ≡ Some value → first ≡ Some value

-- Two audiences have the same members, in any order and however often.
pub record HasSameMembers (first new : List (List ℕ)) : Type 0 where
  pub includes : All (λ a. Contains new a) first
  pub no_other : All (λ a. Contains first a) new

-- The claims of a new ID token are those of the sign-in that the first one is of, as far as section 12.2 says.
pub record IsOfSameSignIn {AC GC : Type 0} (first new : SeenIdTokenClaims AC GC) : Type 0 where
  -- `iss` and `sub` are the first one's, byte for byte
  pub issuer : new.own.issuer.text ≡ first.own.issuer.text
  pub subject : new.standard_claims.subject ≡ first.standard_claims.subject
  -- `aud` has the first one's members, and no others
  pub audience : HasSameMembers first.own.audiences new.own.audiences
  -- `auth_time` and `nonce`, where they are there, are the first one's
  pub auth_time : IsKept first.own.auth_time new.own.auth_time
  pub nonce : IsKept first.own.nonce new.own.nonce
  -- `azp` is the first one's, and is there exactly where that had one
  pub authorized_party : new.own.authorized_party ≡ first.own.authorized_party

-- ---- acceptance

module _ {Key Use Algorithm Type' : Type 0} (k : KeyMeanings Key Use Algorithm Type') {JE AC GC : Type 0} where
  -- An `at_hash`, where it is there, is the hash of the access token by this algorithm under this key.
  abbrev pub FitsHash : SeenToken JE Algorithm (SeenIdTokenClaims AC GC) → Algorithm → Key → List ℕ → Type 0
  FitsHash token alg key access_token =
      (claim : List ℕ) → token.payload.own.access_token_hash ≡ Some claim
      → hash_text (k.keys.hash_of key alg) access_token ≡ Some claim

  -- The token is accepted at this moment, beside this access token, as one of the sign-in whose first ID token had
  -- these claims.
  pub record AcceptsRefreshed (v : SeenVerifier Key Algorithm) (now : ℤ) (first : SeenIdTokenClaims AC GC)
      (access_token : List ℕ) (token : SeenToken JE Algorithm (SeenIdTokenClaims AC GC)) : Type 0 where
    -- the verifier accepts it, whatever its nonce
    pub accepted : Accepts k v any_nonce now token
    -- it is of the same sign-in
    pub same : IsOfSameSignIn first token.payload
    -- its `at_hash` fits, by the algorithm and under the key by which the verifier accepts it
    pub hash : FitsHash token accepted.alg accepted.key access_token

-- ---- the same as rows, of which the first that fails refuses

-- A value is there, and is this one.
abbrev pub is_there : {A : Type 0} → (A → A → Bool) → A → Option A → Bool
is_there same value first = option_map_or (same value) first false

abbrev pub is_kept : {A : Type 0} → (A → A → Bool) → Option A → Option A → Bool
is_kept same first new = option_map_or (λ value. is_there same value first) new true

abbrev pub is_among : List (List ℕ) → List ℕ → Bool
is_among audiences a = list_any (λ x. bytes_eq x a) audiences

abbrev pub has_same_members : List (List ℕ) → List (List ℕ) → Bool
has_same_members first new = list_all (is_among new) first && list_all (is_among first) new

-- Both are there and the same, or neither is there.
abbrev pub is_same_text : Option (List ℕ) → Option (List ℕ) → Bool
is_same_text first (Some new) = is_there bytes_eq new first
is_same_text first None = is_none first

-- The rows of section 12.2, in its order. No claim says when the new
-- token was issued, so `iat` has none.
unfoldable pub sign_in_failure : {AC GC : Type 0} → SeenIdTokenClaims AC GC → SeenIdTokenClaims AC GC
    → Option RefreshedClaimsError
sign_in_failure first new =
    first_refusal
    (unless (bytes_eq new.own.issuer.text first.own.issuer.text) OtherIssuer
    ∷ unless (bytes_eq new.standard_claims.subject first.standard_claims.subject) OtherSubject
    ∷ unless (has_same_members first.own.audiences new.own.audiences) OtherAudience
    ∷ unless (is_kept int_eq first.own.auth_time new.own.auth_time) OtherAuthTime
    ∷ unless (is_kept bytes_eq first.own.nonce new.own.nonce) OtherNonce
    ∷ unless (is_same_text first.own.authorized_party new.own.authorized_party) OtherAuthorizedParty
    ∷ [])

-- The rows of a hash that is claimed: none goes with the algorithm, or it is another.
abbrev pub claim_failure : List ℕ → Result (List ℕ) SigningError → Option RefreshedClaimsError
claim_failure claim (Ok hash) = unless (bytes_eq hash claim) TokenHash
claim_failure claim (Err refusal) = Some (Signing refusal)

-- The rows of `at_hash`. An accepted token has an algorithm and a key; any other is refused for what it lacks.
abbrev pub hash_failure : Result Hashing SignatureVerificationError → List ℕ → Option (List ℕ)
    → Option RefreshedClaimsError
hash_failure by access_token None = None
hash_failure (Ok by) access_token (Some claim) = claim_failure claim (hash_or_refusal by access_token)
hash_failure (Err refusal) access_token (Some claim) = Some (Claims (check.SignatureVerification refusal))

module _ {Key Use Algorithm Type' : Type 0} (k : KeyMeanings Key Use Algorithm Type') {JE AC GC : Type 0} where
  -- the algorithm that a token is signed by, with its hash function under the key that checks the signature
  abbrev pub hashing_of : SeenVerifier Key Algorithm → SeenToken JE Algorithm (SeenIdTokenClaims AC GC)
      → Result Hashing SignatureVerificationError
  hashing_of v token = do
    alg ← signing_alg token.header.alg
    key ← checking_key k v token
    Ok (hashing (k.algorithm_words.as_ref alg) (k.keys.hash_of key alg))

  -- the first row that fails: of the verifier's checks, of section 12.2, of `at_hash`
  unfoldable pub refreshed_failure : SeenVerifier Key Algorithm → ℤ → SeenIdTokenClaims AC GC → List ℕ
      → SeenToken JE Algorithm (SeenIdTokenClaims AC GC) → Option RefreshedClaimsError
  refreshed_failure v now first access_token token =
      first_refusal
      (option_map Claims (first_failure k v any_nonce now token)
      ∷ sign_in_failure first token.payload
      ∷ hash_failure (hashing_of v token) access_token token.payload.own.access_token_hash
      ∷ [])

-- No row fails exactly where the token is accepted.
abbrev pub RefreshedFailsUnlessAccepted : {Key Use Algorithm Type' : Type 0}
    → KeyMeanings Key Use Algorithm Type' → (JE AC GC : Type 0) → Type 0
RefreshedFailsUnlessAccepted {Key} {Use} {Algorithm} k JE AC GC =
    (v : SeenVerifier Key Algorithm) (now : ℤ) (first : SeenIdTokenClaims AC GC) (access_token : List ℕ)
    (token : SeenToken JE Algorithm (SeenIdTokenClaims AC GC))
    → (refreshed_failure k v now first access_token token ≡ None)
    ↔ AcceptsRefreshed k v now first access_token token

-- ---- what a call answers

-- a refusal of the verifier's, as one of such a token: want of memory is never inside another error
abbrev pub of_check : ClaimsVerificationError → RefreshedClaimsError
of_check check.Memory = Memory
of_check refusal = Claims refusal

-- The answer refuses for the first row that fails, and is Ok where none does, or is `Memory`.
abbrev pub JudgesRefreshed : {C : Type 0} → Option RefreshedClaimsError → Result C RefreshedClaimsError → Type 0
JudgesRefreshed failure (Ok claims) = failure ≡ None
JudgesRefreshed failure (Err Memory) = Unit {0}
JudgesRefreshed failure (Err refusal) = failure ≡ Some refusal
