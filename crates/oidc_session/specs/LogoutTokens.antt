-- The checks of a logout token (OpenID Connect Back-Channel Logout 1.0 sections 2.4 and 2.6): one key and one algorithm,
-- which a site hands in.
use Rattle.std.specs.Prelude.{ℕ, ℤ, int_lt, List, [], ◌∷◌, Bool, true, false, not, ◌&&◌, ◌||◌, Option, None, Some, is_some, is_none, Result, Ok, Err, codes}
use Rattle.std.specs.List.{list_any}
use Rattle.std.specs.FinSet as set
use Rattle.std.specs.Str.{bytes_eq}
use Rattle.oidc_members.specs.declared.refusal.Refusal.{Refusal}
use Rattle.oidc_types.specs.{TextAndUrl, find_word}
use Rattle.oidc_types.specs.CoreAlgorithms.{encryption_text, encryption_algorithms}
use Rattle.oidc_types.specs.declared.vocabulary.ClosedVocabulary.{Ghosts as Words}
use Rattle.oidc_types.specs.declared.core_algorithms.CoreJweContentEncryptionAlgorithm.{CoreJweContentEncryptionAlgorithm}
use Rattle.oidc_keys.specs.Jwk.{Verdict}
use Rattle.oidc_keys.specs.declared.refusals.SignatureVerificationError.{SignatureVerificationError}
use Rattle.oidc_keys.specs.declared.refusals.SignatureVerificationError.TheVariants as signature
use Rattle.oidc_oauth2.specs.Replies.{◌>>=◌, ◌>>◌, ◌when◌, ◌for◌, ◌or_as◌, ErrorMeaning}
use Rattle.oidc_jwt.specs.declared.header.JsonWebTokenAlgorithm.{JsonWebTokenAlgorithm}
use Rattle.oidc_jwt.specs.declared.header.JsonWebTokenAlgorithm.TheVariants as algorithm
use Rattle.oidc_jwt.specs.declared.header.TokenHeader.{TokenHeader}
use Rattle.oidc_jwt.specs.Tokens.{SeenToken, token_of}
use Rattle.oidc_tokens.specs.Verification.{short_type, is_alone_in}
use Rattle.oidc_session.specs.LogoutClaims.{SeenLogoutClaims, logout_claims_of}
use Rattle.oidc_session.specs.Sessions.{TokenIds, Kept, SeenLogout}
use Rattle.oidc_session.specs.declared.errors.LogoutError.{LogoutError}
use Rattle.oidc_session.specs.declared.errors.LogoutError.TheVariants as refusal
use Rattle.oidc_session.specs.declared.errors.LogoutError.TheVariants.{Parse, Unsupported, InvalidIssuer, InvalidAudience, WrongAlgorithm, Signature, Expired, Events, NoName, Nonce, Replayed}

-- ---- who verifies

-- what is known of keys and of their algorithms: the words of these, and what a key says of an algorithm, a message and
-- a signature
pub record LogoutKeys (Key Algorithm : Type 0) : Type 1 where
  pub words : Words Algorithm
  pub verdict : Key → Algorithm → List ℕ → List ℕ → Verdict

abbrev pub logout_keys : {Key Algorithm : Type 0} → Words Algorithm → (Key → Algorithm → List ℕ → List ℕ → Verdict)
    → LogoutKeys Key Algorithm
logout_keys words verdict = record { words = words; verdict = verdict }

-- what is expected of a logout token: the client as its audience, the issuer, and the key and the algorithm of its
-- signature
pub record SeenLogoutVerifier (Key Algorithm : Type 0) : Type 0 where
  pub client_id : List ℕ
  pub issuer : TextAndUrl
  pub key : Key
  pub alg : Algorithm

abbrev pub logout_verifier : {Key Algorithm : Type 0} → List ℕ → TextAndUrl → Key → Algorithm
    → SeenLogoutVerifier Key Algorithm
logout_verifier client_id issuer key alg = record { client_id = client_id; issuer = issuer; key = key; alg = alg }

-- a site's sessions, with what it expects of a logout token
pub record SeenSessions (Key Algorithm : Type 0) : Type 0 where
  pub verifier : SeenLogoutVerifier Key Algorithm
  pub kept : Kept

-- ---- a token

-- a logout token that was read
abbrev pub SeenLogoutToken : Type 0 → Type 0
SeenLogoutToken Algorithm = SeenToken CoreJweContentEncryptionAlgorithm Algorithm SeenLogoutClaims

-- the logout token that a text is, or why it is none
abbrev pub logout_token_of : {Algorithm : Type 0} → Words Algorithm → List ℕ → Result (SeenLogoutToken Algorithm) Refusal
logout_token_of words = token_of (find_word encryption_text encryption_algorithms) words.from_str logout_claims_of

-- A `typ`, where there is one, is that of a logout token or of any token.
abbrev pub is_logout_type : Option (List ℕ) → Bool
is_logout_type None = true
is_logout_type (Some typ) = list_any (bytes_eq (short_type typ)) (codes "logout+jwt" ∷ codes "jwt" ∷ [])

-- no extension has to be understood, the payload is no token of its own, and the type is known
abbrev pub is_known_header : {JE JS : Type 0} → TokenHeader JE JS → Bool
is_known_header header = not header.crit && is_none header.cty && is_logout_type header.typ

-- it is signed, by this algorithm
abbrev pub is_signed_by : {JE JS : Type 0} → Words JS → JS → JsonWebTokenAlgorithm JE JS → Bool
is_signed_by words own (algorithm.Signature alg) = bytes_eq (words.as_ref alg) (words.as_ref own)
is_signed_by words own (algorithm.Encryption alg) = false
is_signed_by words own algorithm.None = false

-- why a verdict isn't Ok
abbrev pub fault_of : Verdict → Option SignatureVerificationError
fault_of (Ok u) = None
fault_of (Err fault) = Some fault

-- whom a token names, and its id
abbrev pub logout_of : SeenLogoutClaims → SeenLogout
logout_of claims = record {
  subject = claims.subject;
  provider_session = claims.provider_session;
  token_id = claims.needed.token_id;
}

abbrev pub names_somebody : SeenLogoutClaims → Bool
names_somebody claims = is_some claims.subject || is_some claims.provider_session

-- ---- the table

-- The checks of a verified token's claims at this moment, in nanoseconds since the Unix epoch, where tokens of these ids
-- were accepted.
abbrev pub checked_claims : TokenIds → ℤ → SeenLogoutClaims → Result (Unit {0}) LogoutError
checked_claims token_ids now claims = do
  Expired when not (int_lt now claims.needed.expiration)
  Events when not claims.needed.names_logout
  NoName when not (names_somebody claims)
  Nonce when claims.has_nonce
  Replayed when set.contains token_ids claims.needed.token_id

module _ {Key Algorithm : Type 0} (keys : LogoutKeys Key Algorithm) (v : SeenLogoutVerifier Key Algorithm) where
  -- what the key says of a token's signature, by the one algorithm
  abbrev pub signature_fault : SeenLogoutToken Algorithm → Option SignatureVerificationError
  signature_fault token = fault_of (keys.verdict v.key v.alg token.message token.signature)

  -- the checks of a token, then those of its claims
  unfoldable pub checked_logout : TokenIds → ℤ → SeenLogoutToken Algorithm → Result (Unit {0}) LogoutError
  checked_logout token_ids now token = do
    Unsupported when not (is_known_header token.header)
    InvalidIssuer when not (bytes_eq token.payload.needed.issuer.text v.issuer.text)
    InvalidAudience when not (is_alone_in v.client_id token.payload.needed.audiences)
    WrongAlgorithm when not (is_signed_by keys.words v.alg token.header.alg)
    Signature for signature_fault token
    checked_claims token_ids now token.payload

  -- the logout that a text is, or the first refusal that holds
  unfoldable pub accepted_logout : TokenIds → ℤ → List ℕ → Result SeenLogout LogoutError
  accepted_logout token_ids now text = do
    token ← logout_token_of keys.words text or_as Parse
    checked_logout token_ids now token
    Ok (logout_of token.payload)

-- ---- what a result says of this

-- want of memory
abbrev pub is_memory : LogoutError → Bool
is_memory refusal.Memory = true
is_memory e = false

-- a refusal is seen as it is, and stands for no fault of a transport: there is none
abbrev pub logout_errors : ErrorMeaning LogoutError LogoutError
logout_errors = record { seen = λ e. e; wants_memory = is_memory; is_fault = λ e. false }

-- want of memory stands inside another refusal
abbrev pub holds_memory : LogoutError → Bool
holds_memory (refusal.Signature signature.Memory) = true
holds_memory e = false
