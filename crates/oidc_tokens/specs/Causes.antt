-- Why an ID token isn't accepted: each cause by itself, of which no other check is a part (OpenID Connect Core
-- 1.0 sections 3.1.3.7 and 10.1).
use Rattle.std.specs.Prelude.{◌≡◌, ◌≢◌, ◌⊎◌, ℕ, ℤ, ◌≤ℤ◌, List, [], ◌∷◌, filter, Bool, Option, None, Ok, Err, IsTrue, IsFalse}
use Rattle.oidc_keys.specs.declared.refusals.SignatureVerificationError.{SignatureVerificationError}
use Rattle.oidc_keys.specs.declared.refusals.SignatureVerificationError.TheVariants.{NoSignature, DisallowedAlg, NoMatchingKey, AmbiguousKeyId}
use Rattle.oidc_jwt.specs.declared.header.JsonWebTokenAlgorithm.TheVariants as algorithm
use Rattle.oidc_jwt.specs.declared.header.TokenHeader.{TokenHeader}
use Rattle.oidc_tokens.specs.declared.verification.refusals.ClaimsVerificationError.{ClaimsVerificationError}
use Rattle.oidc_tokens.specs.declared.verification.refusals.ClaimsVerificationError.TheVariants.{Unsupported, InvalidIssuer, InvalidAudience, SignatureVerification, Expired, InvalidNonce, InvalidSubject, Memory}
use Rattle.oidc_jwt.specs.Tokens.{SeenToken}
use Rattle.oidc_id_token_claims.specs.IdTokenClaims.{SeenIdTokenClaims}
use Rattle.oidc_tokens.specs.Signatures.{KeyMeanings, SeenVerifier, fits, is_allowed, key_for}
use Rattle.oidc_tokens.specs.Verification.{is_token_type, is_encrypted, IsForAlone}

-- An extension has to be understood, the payload is a token of its own, the token is of no known type, or it
-- is encrypted.
abbrev pub AsksTooMuch : {JE JS : Type 0} → TokenHeader JE JS → Type 0
AsksTooMuch header =
    IsTrue header.crit ⊎ ((header.cty ≢ None) ⊎ (IsFalse (is_token_type header.typ) ⊎ IsTrue (is_encrypted header.alg)))

module _ {Key Use Algorithm Type' : Type 0} (k : KeyMeanings Key Use Algorithm Type') {JE P : Type 0}
    (v : SeenVerifier Key Algorithm) (token : SeenToken JE Algorithm P) where
  abbrev pub IsSignedBy : Algorithm → Type 0
  IsSignedBy alg = token.header.alg ≡ algorithm.Signature alg

  -- its key is one of the issuer's set, and no secret of the client
  abbrev pub IsByKeyOfSet : Algorithm → Type 0
  IsByKeyOfSet alg = IsFalse (k.algorithms.uses_shared_secret alg)

  -- the keys of the issuer that fit
  abbrev pub fitting : Algorithm → List Key
  fitting alg = filter (fits k alg token.header.kid) v.keys

  -- what the algorithm and the keys are at fault for
  abbrev pub KeyIsAtFault : SignatureVerificationError → Type 0
  KeyIsAtFault NoSignature = token.header.alg ≡ algorithm.None
  KeyIsAtFault DisallowedAlg =
      (alg : Algorithm) × IsSignedBy alg
      × (IsFalse (is_allowed k v alg) ⊎ (IsTrue (k.algorithms.uses_shared_secret alg) × (v.secret_key ≡ None)))
  KeyIsAtFault NoMatchingKey = (alg : Algorithm) × IsSignedBy alg × IsByKeyOfSet alg × (fitting alg ≡ [])
  KeyIsAtFault AmbiguousKeyId =
      (alg : Algorithm) × IsSignedBy alg × IsByKeyOfSet alg
      × (a : Key) × (b : Key) × (more : List Key) × (fitting alg ≡ a ∷ b ∷ more)
  KeyIsAtFault refusal = ⊥

  -- what the key itself says of the signature
  abbrev pub KeySays : SignatureVerificationError → Type 0
  KeySays refusal =
      (alg : Algorithm) × (key : Key) × IsSignedBy alg × (key_for k v token.header.kid alg ≡ Ok key)
      × (k.keys.verdict key alg token.message token.signature ≡ Err refusal)

module _ {Key Use Algorithm Type' : Type 0} (k : KeyMeanings Key Use Algorithm Type') {JE AC GC : Type 0}
    (v : SeenVerifier Key Algorithm) (allows : Option (List ℕ) → Bool) (now : ℤ)
    (token : SeenToken JE Algorithm (SeenIdTokenClaims AC GC)) where
  abbrev pub Cause : ClaimsVerificationError → Type 0
  Cause Unsupported = AsksTooMuch token.header
  Cause InvalidIssuer = token.payload.own.issuer.text ≢ v.issuer.text
  Cause InvalidAudience = IsForAlone v.client_id token.payload.own.audiences → ⊥
  Cause (SignatureVerification refusal) = KeyIsAtFault k v token refusal ⊎ KeySays k v token refusal
  Cause Expired = token.payload.own.expiration ≤ℤ now
  Cause InvalidNonce = IsFalse (allows token.payload.own.nonce)
  Cause InvalidSubject = ⊥
  Cause Memory = Unit {0}
