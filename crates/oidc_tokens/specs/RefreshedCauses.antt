-- Why an ID token that comes with refreshed tokens isn't accepted: each cause by itself, of which no other row is a
-- part (OpenID Connect Core 1.0 sections 12.2, 3.1.3.6 and 3.1.3.7).
use Rattle.std.specs.Prelude.{◌≡◌, ◌≢◌, ℕ, ℤ, List, Option, None, Some, Ok}
use Rattle.oidc_types.specs.declared.signing_error.SigningError.{SigningError}
use Rattle.oidc_types.specs.declared.signing_error.SigningError.TheVariants as signing
use Rattle.oidc_jwt.specs.declared.header.JsonWebTokenAlgorithm.TheVariants as algorithm
use Rattle.oidc_jwt.specs.Tokens.{SeenToken}
use Rattle.oidc_id_token_claims.specs.IdTokenClaims.{SeenIdTokenClaims}
use Rattle.oidc_tokens.specs.declared.verification.refusals.ClaimsVerificationError.TheVariants as check
use Rattle.oidc_tokens.specs.declared.refreshed.RefreshedClaimsError.{RefreshedClaimsError}
use Rattle.oidc_tokens.specs.declared.refreshed.RefreshedClaimsError.TheVariants.{Claims, OtherIssuer, OtherSubject, OtherAudience, OtherAuthTime, OtherNonce, OtherAuthorizedParty, Signing, TokenHash, Memory}
use Rattle.oidc_tokens.specs.Signatures.{KeyMeanings, SeenVerifier, key_for}
use Rattle.oidc_tokens.specs.Causes.{Cause}
use Rattle.oidc_tokens.specs.Hashes.{hash_text}
use Rattle.oidc_tokens.specs.Refreshed.{any_nonce, HasSameMembers}

-- A value is there, and the first ID token had not the same.
abbrev pub IsChanged : {A : Type 0} → Option A → Option A → Type 0
IsChanged {A} first new = (value : A) × (new ≡ Some value) × (first ≢ Some value)

module _ {Key Use Algorithm Type' : Type 0} (k : KeyMeanings Key Use Algorithm Type') {JE AC GC : Type 0}
    (v : SeenVerifier Key Algorithm) (token : SeenToken JE Algorithm (SeenIdTokenClaims AC GC)) where
  -- The token has this `at_hash`. It is signed by this algorithm, and this key checks it.
  pub record ClaimsHash (claim : List ℕ) (alg : Algorithm) (key : Key) : Type 0 where
    pub there : token.payload.own.access_token_hash ≡ Some claim
    pub signed : token.header.alg ≡ algorithm.Signature alg
    pub chosen : key_for k v token.header.kid alg ≡ Ok key

  -- It has one, and no hash goes with that algorithm, whose text the refusal has.
  pub record HasNoHash (refusal : SigningError) : Type 0 where
    pub claim : List ℕ
    pub alg : Algorithm
    pub key : Key
    pub claims : ClaimsHash claim alg key
    pub none : k.keys.hash_of key alg ≡ None
    pub named : refusal ≡ signing.UnsupportedAlg (k.algorithm_words.as_ref alg)

  -- It has one, and the hash of the access token is another.
  pub record HasAnotherHash (access_token : List ℕ) : Type 0 where
    pub claim : List ℕ
    pub alg : Algorithm
    pub key : Key
    pub claims : ClaimsHash claim alg key
    pub hash : List ℕ
    pub is : hash_text (k.keys.hash_of key alg) access_token ≡ Some hash
    pub another : claim ≢ hash

module _ {Key Use Algorithm Type' : Type 0} (k : KeyMeanings Key Use Algorithm Type') {JE AC GC : Type 0}
    (v : SeenVerifier Key Algorithm) (now : ℤ) (first : SeenIdTokenClaims AC GC) (access_token : List ℕ)
    (token : SeenToken JE Algorithm (SeenIdTokenClaims AC GC)) where
  abbrev pub RefreshedCause : RefreshedClaimsError → Type 0
  RefreshedCause (Claims check.Memory) = ⊥
  RefreshedCause (Claims failure) = Cause k v any_nonce now token failure
  RefreshedCause OtherIssuer = token.payload.own.issuer.text ≢ first.own.issuer.text
  RefreshedCause OtherSubject = token.payload.standard_claims.subject ≢ first.standard_claims.subject
  RefreshedCause OtherAudience = HasSameMembers first.own.audiences token.payload.own.audiences → ⊥
  RefreshedCause OtherAuthTime = IsChanged first.own.auth_time token.payload.own.auth_time
  RefreshedCause OtherNonce = IsChanged first.own.nonce token.payload.own.nonce
  RefreshedCause OtherAuthorizedParty = token.payload.own.authorized_party ≢ first.own.authorized_party
  RefreshedCause (Signing refusal) = HasNoHash k v token refusal
  RefreshedCause TokenHash = HasAnotherHash k v token access_token
  RefreshedCause Memory = Unit {0}
