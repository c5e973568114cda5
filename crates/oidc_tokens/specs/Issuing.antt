-- ID tokens that are issued: why one isn't, and who accepts it (OpenID Connect Core 1.0 sections 3.1.3.6,
-- 3.1.3.7 and 3.3.2.11).
use Rattle.std.specs.Prelude.{◌≡◌, ◌⊎◌, ℕ, ℤ, ◌<ℤ◌, List, [], ◌∷◌, Bool, Option, Result, Ok, Err, IsTrue}
use Rattle.oidc_members.specs.Seen.{OutSeen}
use Rattle.oidc_types.specs.declared.signing_error.SigningError.{SigningError}
use Rattle.oidc_jwt.specs.Issuing.{RefusesMessage}
use Rattle.oidc_jwt.specs.declared.jwt.JsonWebTokenError.{JsonWebTokenError}
use Rattle.oidc_jwt.specs.declared.jwt.JsonWebTokenError.TheVariants as token_error
use Rattle.oidc_id_token_claims.specs.IdTokenClaims.{SeenIdTokenClaims}
use Rattle.oidc_tokens.specs.Signatures.{KeyMeanings, SeenVerifier, is_allowed, key_for}

-- Each hash that is wanted exists, and a signer refuses a message with this header so.
pub record IsUnsigned {P : Type 0} (hashed : Result P SigningError) (header : List OutSeen)
    (signs : List ℕ → Result (List ℕ) SigningError) (refusal : SigningError) : Type 0 where
  pub payload : P
  pub own_hashes : hashed ≡ Ok payload
  pub refuses : RefusesMessage header signs refusal

-- A hash that is wanted doesn't exist, and this is why; or the signer refuses; or there was no memory.
abbrev pub IsUnissued : {P : Type 0} → Result P SigningError → List OutSeen
    → (List ℕ → Result (List ℕ) SigningError) → JsonWebTokenError → Type 0
IsUnissued hashed header signs (token_error.SigningError refusal) =
    (hashed ≡ Err refusal) ⊎ IsUnsigned hashed header signs refusal
IsUnissued hashed header signs token_error.Memory = Unit {0}

module _ {Key Use Algorithm Type' : Type 0} (k : KeyMeanings Key Use Algorithm Type') where
  -- The verifier expects these claims at this moment with such a nonce, and takes signatures by this
  -- algorithm under this key.
  pub record Expects {AC GC : Type 0} (v : SeenVerifier Key Algorithm) (allows : Option (List ℕ) → Bool)
      (now : ℤ) (alg : Algorithm) (key : Key) (claims : SeenIdTokenClaims AC GC) : Type 0 where
    pub issuer : claims.own.issuer.text ≡ v.issuer.text
    pub audience : claims.own.audiences ≡ v.client_id ∷ []
    pub allowed : IsTrue (is_allowed k v alg)
    pub chosen : key_for k v (k.keys.key_id key) alg ≡ Ok key
    pub unexpired : now <ℤ claims.own.expiration
    pub nonce : IsTrue (allows claims.own.nonce)
