-- The checks of an ID token (OpenID Connect Core 1.0 sections 2 and 3.1.3.7).
use Rattle.std.specs.Prelude.{◌≡◌, ◌↔◌, ℕ, ℤ, ◌<ℤ◌, int_lt, List, [], ◌∷◌, fold, Bool, true, false, ◌&&◌, not, Option, None, Some, is_none, Result, Ok, Err, if◌then◌else◌, IsTrue, Contains, All, drop, length, codes, nat_eq}
use Rattle.std.specs.List.{list_any, list_all, starts_with}
use Rattle.std.specs.Option.{option_or}
use Rattle.std.specs.Str.{bytes_eq, str_to_ascii_lowercase}
use Rattle.oidc_keys.specs.declared.refusals.SignatureVerificationError.{SignatureVerificationError}
use Rattle.oidc_keys.specs.declared.refusals.SignatureVerificationError.TheVariants as signature
use Rattle.oidc_jwt.specs.declared.header.JsonWebTokenAlgorithm.{JsonWebTokenAlgorithm}
use Rattle.oidc_jwt.specs.declared.header.JsonWebTokenAlgorithm.TheVariants as algorithm
use Rattle.oidc_jwt.specs.declared.header.TokenHeader.{TokenHeader}
use Rattle.oidc_tokens.specs.declared.verification.refusals.ClaimsVerificationError.{ClaimsVerificationError}
use Rattle.oidc_tokens.specs.declared.verification.refusals.ClaimsVerificationError.TheVariants.{Unsupported, InvalidIssuer, InvalidAudience, SignatureVerification, Expired, InvalidNonce, Memory}
use Rattle.oidc_jwt.specs.Tokens.{SeenToken}
use Rattle.oidc_id_token_claims.specs.IdTokenClaims.{SeenIdTokenClaims}
use Rattle.oidc_tokens.specs.Signatures.{KeyMeanings, SeenVerifier, is_allowed, key_for, verdict_on}

-- ---- the header (RFC 7515 sections 4.1.9 to 4.1.11, RFC 7519 sections 5.1 and 5.2)

-- a media type in ASCII lower case, without one `application/` before it
abbrev pub short_type : List ℕ → List ℕ
short_type typ =
    let lower = str_to_ascii_lowercase typ in
    let prefix = codes "application/" in
    if starts_with nat_eq lower prefix then drop (length prefix) lower else lower

-- A `typ`, where there is one, is that of a token.
abbrev pub is_token_type : Option (List ℕ) → Bool
is_token_type None = true
is_token_type (Some typ) =
    list_any (bytes_eq (short_type typ)) (codes "jwt" ∷ codes "jose" ∷ codes "jose+json" ∷ [])

abbrev pub is_encrypted : {JE JS : Type 0} → JsonWebTokenAlgorithm JE JS → Bool
is_encrypted (algorithm.Signature alg) = false
is_encrypted (algorithm.Encryption alg) = true
is_encrypted algorithm.None = false

-- No extension has to be understood, the payload is no token of its own, the token is of a known type,
-- and it isn't encrypted.
abbrev pub is_supported : {JE JS : Type 0} → TokenHeader JE JS → Bool
is_supported header =
    not header.crit && is_none header.cty && is_token_type header.typ && not (is_encrypted header.alg)

-- ---- the audience

-- The client is in the audience, and nobody else is.
pub record IsForAlone (client_id : List ℕ) (audiences : List (List ℕ)) : Type 0 where
  pub one : Contains audiences client_id
  pub no_other : All (λ a. a ≡ client_id) audiences

-- the same as a test
abbrev pub is_alone_in : List ℕ → List (List ℕ) → Bool
is_alone_in id audiences =
    list_any (λ a. bytes_eq a id) audiences && list_all (λ a. bytes_eq a id) audiences

-- ---- acceptance

module _ {Key Use Algorithm Type' : Type 0} (k : KeyMeanings Key Use Algorithm Type') {JE AC GC : Type 0} where
  -- The token is accepted with an allowed nonce at this moment, in nanoseconds since the Unix epoch.
  pub record Accepts (v : SeenVerifier Key Algorithm) (allows : Option (List ℕ) → Bool) (now : ℤ)
      (token : SeenToken JE Algorithm (SeenIdTokenClaims AC GC)) : Type 0 where
    -- no extension has to be understood
    pub no_extension : token.header.crit ≡ false
    -- the payload is no token of its own
    pub no_inner_token : token.header.cty ≡ None
    -- the token is of a known type
    pub known_type : IsTrue (is_token_type token.header.typ)
    -- the issuer's text is the one that is expected, byte for byte
    pub issuer : token.payload.own.issuer.text ≡ v.issuer.text
    -- the client is in the audience, and nobody else is
    pub audience : IsForAlone v.client_id token.payload.own.audiences
    -- it is signed, by an algorithm that the client allows
    pub alg : Algorithm
    pub signed : token.header.alg ≡ algorithm.Signature alg
    pub allowed : IsTrue (is_allowed k v alg)
    -- the key for that algorithm and the key id of the header verifies the signature of the message
    pub key : Key
    pub chosen : key_for k v token.header.kid alg ≡ Ok key
    pub verified : k.keys.verdict key alg token.message token.signature ≡ Ok tt
    -- the moment is before the token expires
    pub unexpired : now <ℤ token.payload.own.expiration
    -- its nonce, or that it has none, is allowed
    pub nonce : IsTrue (allows token.payload.own.nonce)

-- ---- the same as checks, in the order in which they are made

-- no refusal where the check holds
abbrev pub unless : {E : Type 0} → Bool → E → Option E
unless holds refusal = if holds then None else Some refusal

-- none where the verdict is Ok
abbrev pub refused_as : (SignatureVerificationError → ClaimsVerificationError)
    → Result (Unit {0}) SignatureVerificationError → Option ClaimsVerificationError
refused_as wrap (Ok u) = None
refused_as wrap (Err refusal) = Some (wrap refusal)

-- the first that refuses
abbrev pub first_refusal : {E : Type 0} → List (Option E) → Option E
first_refusal checks = fold option_or None checks

module _ {Key Use Algorithm Type' : Type 0} (k : KeyMeanings Key Use Algorithm Type') {JE AC GC : Type 0} where
  -- the first check that fails
  unfoldable pub first_failure : SeenVerifier Key Algorithm → (Option (List ℕ) → Bool) → ℤ
      → SeenToken JE Algorithm (SeenIdTokenClaims AC GC) → Option ClaimsVerificationError
  first_failure v allows now token =
      let own = token.payload.own in
      first_refusal
      (unless (is_supported token.header) Unsupported
      ∷ unless (bytes_eq own.issuer.text v.issuer.text) InvalidIssuer
      ∷ unless (is_alone_in v.client_id own.audiences) InvalidAudience
      ∷ refused_as SignatureVerification (verdict_on k v token)
      ∷ unless (int_lt now own.expiration) Expired
      ∷ unless (allows own.nonce) InvalidNonce
      ∷ [])

-- No check fails exactly where the token is accepted.
abbrev pub FailsUnlessAccepted : {Key Use Algorithm Type' : Type 0} → KeyMeanings Key Use Algorithm Type'
    → (JE AC GC : Type 0) → Type 0
FailsUnlessAccepted {Key} {Use} {Algorithm} k JE AC GC =
    (v : SeenVerifier Key Algorithm) (allows : Option (List ℕ) → Bool) (now : ℤ)
    (token : SeenToken JE Algorithm (SeenIdTokenClaims AC GC))
    → (first_failure k v allows now token ≡ None) ↔ Accepts k v allows now token

-- ---- what a call answers

-- a refusal of a signature, as one of claims: want of memory is never inside another error
abbrev pub claims_error : SignatureVerificationError → ClaimsVerificationError
claims_error signature.Memory = Memory
claims_error refusal = SignatureVerification refusal

-- The answer refuses for the first check that fails, and is Ok where none does, or is `Memory`.
abbrev pub Judges : {C : Type 0} → Option ClaimsVerificationError
    → Result C ClaimsVerificationError → Type 0
Judges failure (Ok claims) = failure ≡ None
Judges failure (Err Memory) = Unit {0}
Judges failure (Err refusal) = failure ≡ Some refusal
