-- The answer to a login's token request, and the ID token among its tokens: RFC 6749 sections 5.1 and 5.2, OpenID Connect
-- Core 1.0 sections 2, 3.1.3.3, 3.1.3.6 to 3.1.3.8, 3.2.2.9, 3.3.2.10 and 3.3.2.11.
use Rattle.std.specs.Prelude.{◌≡◌, ℕ, ℤ, List, [], Bool, false, not, Option, None, Some, Result, Ok, Err}
use Rattle.std.specs.Option.{option_map_or}
use Rattle.std.specs.Str.{bytes_eq}
use Rattle.oidc_members.specs.Seen.{SeenMember}
use Rattle.oidc_members.specs.declared.reading.Reading.{Reading}
use Rattle.oidc_members.specs.declared.refusal.Refusal.{Refusal}
use Rattle.oidc_types.specs.{signing_text}
use Rattle.oidc_types.specs.declared.signing_error.SigningError.{SigningError}
use Rattle.oidc_types.specs.declared.core_algorithms.CoreJwsSigningAlgorithm.{CoreJwsSigningAlgorithm}
use Rattle.oidc_types.specs.declared.core_algorithms.CoreJweContentEncryptionAlgorithm.{CoreJweContentEncryptionAlgorithm}
use Rattle.oidc_keys.specs.declared.refusals.SignatureVerificationError.{SignatureVerificationError}
use Rattle.oidc_oauth2.specs.Messages.{SeenResponse}
use Rattle.oidc_oauth2.specs.Words.{error_of, token_type_of}
use Rattle.oidc_oauth2.specs.ErrorResponse.{SeenError, error_response_of}
use Rattle.oidc_oauth2.specs.Replies.{◌>>=◌}
use Rattle.oidc_oauth2.specs.TokenResponse.{SeenTokens, tokens_among}
use Rattle.oidc_oauth2.specs.TokenAnswers.{TokenRefusal, status_worth}
use Rattle.oidc_oauth2.specs.declared.error_types.CoreErrorResponseType.{CoreErrorResponseType}
use Rattle.oidc_oauth2.specs.declared.token_type.CoreTokenType.{CoreTokenType}
use Rattle.oidc_oauth2.specs.declared.extra_fields.EmptyExtraTokenFields.{EmptyExtraTokenFields}
use Rattle.oidc_jwt.specs.Tokens.{SeenToken, token_of}
use Rattle.oidc_jwt.specs.declared.header.JsonWebTokenAlgorithm.TheVariants as algorithm
use Rattle.oidc_id_token_claims.specs.IdTokenClaims.{SeenIdTokenClaims, id_token_claims_of}
use Rattle.oidc_tokens.specs.Signatures.{SeenVerifier, signing_alg, key_for, checking_key}
use Rattle.oidc_tokens.specs.Verification.{Accepts, first_failure}
use Rattle.oidc_tokens.specs.Causes.{Cause}
use Rattle.oidc_tokens.specs.Hashes.{Hashing, hashing, hash_text, hash_or_refusal}
use Rattle.oidc_tokens.specs.IdTokenFields.{SeenIdTokenFields, response_fields_of}
use Rattle.oidc_tokens.specs.declared.verification.refusals.ClaimsVerificationError.{ClaimsVerificationError}
use Rattle.oidc_client.specs.Client as clients
use Rattle.oidc_login.specs.Types.{SiteTypes, SeenLoginClient}

-- ---- an ID token

-- an ID token with these additional claims and genders
abbrev pub SeenIdToken : Type 0 → Type 0 → Type 0
SeenIdToken AC GC = SeenToken CoreJweContentEncryptionAlgorithm CoreJwsSigningAlgorithm (SeenIdTokenClaims AC GC)

-- whom it is about
abbrev pub subject_of : {AC GC : Type 0} → SeenIdToken AC GC → List ℕ
subject_of token = token.payload.standard_claims.subject

module _ {AC GC Key Use : Type 0} (types : SiteTypes AC GC Key Use) where
  -- the ID token that a text is under a reading, or why it is none
  abbrev pub id_token_of : Reading → List ℕ → Result (SeenIdToken AC GC) Refusal
  id_token_of reading = token_of types.encryption_named types.signing_named (id_token_claims_of types.additional types.gender reading)

-- ---- the answer to the token request

-- the fields beside those of RFC 6749: an ID token, where there is one, and no others
abbrev pub Fields : Type 0 → Type 0 → Type 0
Fields AC GC = SeenIdTokenFields (SeenIdToken AC GC) EmptyExtraTokenFields

abbrev pub no_others : List SeenMember → Result EmptyExtraTokenFields Refusal
no_others members = Ok (record {})

abbrev pub Tokens : Type 0 → Type 0 → Type 0
Tokens AC GC = SeenTokens CoreTokenType (Fields AC GC)

-- the error response that the members of an object are
abbrev pub error_read : List SeenMember → Result (SeenError CoreErrorResponseType) Refusal
error_read = error_response_of error_of

-- why an answer holds no tokens, whatever the transport's error was
abbrev pub TokenError : Type 0
TokenError = TokenRefusal (SeenError CoreErrorResponseType)

module _ {AC GC Key Use : Type 0} (types : SiteTypes AC GC Key Use) where
  abbrev pub fields_of : Reading → List SeenMember → Result (Fields AC GC) Refusal
  fields_of reading = response_fields_of (id_token_of types reading) no_others

  -- the tokens that the members of an object are, with the ID token under a reading
  abbrev pub tokens_read : Reading → List SeenMember → Result (Tokens AC GC) Refusal
  tokens_read reading = tokens_among token_type_of (fields_of reading)

  -- the tokens that a response holds whose body isn't too long, or why it is refused
  unfoldable pub tokens_or_refusal : Reading → SeenResponse → Result (Tokens AC GC) TokenError
  tokens_or_refusal reading = status_worth error_read (tokens_read reading)

-- ---- what is expected of the ID token

-- a text is there, and is the one that was sent
abbrev pub is_sent : List ℕ → Option (List ℕ) → Bool
is_sent sent text = option_map_or (λ n. bytes_eq n sent) text false

abbrev pub KeyVerifier : Type 0 → Type 0
KeyVerifier Key = SeenVerifier Key CoreJwsSigningAlgorithm

module _ {AC GC Key Use : Type 0} (types : SiteTypes AC GC Key Use) where
  -- what a client expects: a token for itself, by its issuer, signed by an algorithm that it allows under its
  -- own secret or under one of the issuer's keys
  abbrev pub verifier_of : SeenLoginClient Key → KeyVerifier Key
  verifier_of = clients.verifier_of types.keys.keys.symmetric_of

  -- a client accepts the token, with the nonce that was sent, at this moment (nanoseconds since the Unix epoch)
  abbrev pub IsAcceptedBy : SeenLoginClient Key → List ℕ → ℤ → SeenIdToken AC GC → Type 0
  IsAcceptedBy client sent now token = Accepts types.keys (verifier_of client) (is_sent sent) now token

  -- the first check of a token that fails
  abbrev pub failure_for : SeenLoginClient Key → List ℕ → ℤ → SeenIdToken AC GC → Option ClaimsVerificationError
  failure_for client sent now token =
      first_failure types.keys (verifier_of client) (is_sent sent) now token

  -- why a check of a token fails, said by itself
  abbrev pub FailsFor : SeenLoginClient Key → List ℕ → ℤ → SeenIdToken AC GC → ClaimsVerificationError → Type 0
  FailsFor client sent now token kind =
      Cause types.keys (verifier_of client) (is_sent sent) now token kind

-- ---- the hashes of an access token and of a code that the ID token beside them may hold

-- the `at_hash` of an ID token, where it has one
abbrev pub claimed_hash : {AC GC : Type 0} → SeenIdToken AC GC → Option (List ℕ)
claimed_hash token = token.payload.own.access_token_hash

-- its `c_hash`, where it has one
abbrev pub claimed_code_hash : {AC GC : Type 0} → SeenIdToken AC GC → Option (List ℕ)
claimed_code_hash token = token.payload.own.code_hash

module _ {AC GC Key Use : Type 0} (types : SiteTypes AC GC Key Use) where
  -- the hash of a text by the hash function that goes with an algorithm under a key, where there is one
  abbrev pub hash_under : Key → CoreJwsSigningAlgorithm → List ℕ → Option (List ℕ)
  hash_under key alg text = hash_text (types.keys.keys.hash_of key alg) text

  -- A hash that is claimed, where one is, is that of this text by this algorithm under this key.
  abbrev pub FitsClaim : Option (List ℕ) → Key → CoreJwsSigningAlgorithm → List ℕ → Type 0
  FitsClaim claimed key alg text =
      (claim : List ℕ) → claimed ≡ Some claim → hash_under key alg text ≡ Some claim

  -- An `at_hash`, where there is one, is the hash of this access token by this algorithm under this key.
  abbrev pub FitsHash : SeenIdToken AC GC → Key → CoreJwsSigningAlgorithm → List ℕ → Type 0
  FitsHash token key alg access_token = FitsClaim (claimed_hash token) key alg access_token

  -- A hash that is claimed is that of this text by the algorithm that the token is signed by, under the key that
  -- checks it for this client.
  abbrev pub HasOwnClaim : Option (List ℕ) → SeenLoginClient Key → SeenIdToken AC GC → List ℕ → Type 0
  HasOwnClaim claimed client token text =
      (alg : CoreJwsSigningAlgorithm) (key : Key) → token.header.alg ≡ algorithm.Signature alg
      → key_for types.keys (verifier_of types client) token.header.kid alg ≡ Ok key
      → FitsClaim claimed key alg text

  -- so is an `at_hash`, of an access token
  abbrev pub HasOwnHash : SeenLoginClient Key → SeenIdToken AC GC → List ℕ → Type 0
  HasOwnHash client token access_token = HasOwnClaim (claimed_hash token) client token access_token

  -- and a `c_hash`, of a code
  abbrev pub HasOwnCodeHash : SeenLoginClient Key → SeenIdToken AC GC → List ℕ → Type 0
  HasOwnCodeHash client token code = HasOwnClaim (claimed_code_hash token) client token code

  -- ---- the same as a value, for any token

  -- the hash function that goes with the algorithm of a token, under the key that checks it
  abbrev pub hashing_found : KeyVerifier Key → SeenIdToken AC GC → Result Hashing SignatureVerificationError
  hashing_found v token = do
    alg ← signing_alg token.header.alg
    key ← checking_key types.keys v token
    Ok (hashing (signing_text alg) (types.keys.keys.hash_of key alg))

-- A token without an algorithm or a key has none, and no name of an algorithm. It is never accepted.
abbrev pub or_no_hash : Result Hashing SignatureVerificationError → Hashing
or_no_hash (Ok by) = by
or_no_hash (Err refusal) = hashing [] None

-- the hash of an access token or of a code beside an ID token, or why it has none
unfoldable pub hash_beside : {AC GC Key Use : Type 0} → SiteTypes AC GC Key Use → KeyVerifier Key
    → SeenIdToken AC GC → List ℕ → Result (List ℕ) SigningError
hash_beside types v token text = hash_or_refusal (or_no_hash (hashing_found types v token)) text

-- ---- what is said of a claim and the hash that it stands for

-- why there is none, where one is claimed
abbrev pub refusal_of_claim : Option (List ℕ) → Result (List ℕ) SigningError → Option SigningError
refusal_of_claim None hash = None
refusal_of_claim (Some claim) (Ok hash) = None
refusal_of_claim (Some claim) (Err refusal) = Some refusal

-- another one is claimed
abbrev pub claims_another : Option (List ℕ) → Result (List ℕ) SigningError → Bool
claims_another None hash = false
claims_another (Some claim) (Ok hash) = not (bytes_eq hash claim)
claims_another (Some claim) (Err refusal) = false

-- a claim is demanded for a text that is there, and there is none
abbrev pub lacks_claim : Bool → Option (List ℕ) → Option (List ℕ) → Bool
lacks_claim demanded claim None = false
lacks_claim demanded None (Some text) = demanded
lacks_claim demanded (Some claim) (Some text) = false

module _ {AC GC Key Use : Type 0} (types : SiteTypes AC GC Key Use) (v : KeyVerifier Key) (token : SeenIdToken AC GC) where
  -- why there is none of a text beside an ID token, where the text is there and a hash of it is claimed
  abbrev pub refusal_beside : Option (List ℕ) → Option (List ℕ) → Option SigningError
  refusal_beside claim None = None
  refusal_beside claim (Some text) = refusal_of_claim claim (hash_beside types v token text)

  -- another one than that of the text is claimed
  abbrev pub is_another_beside : Option (List ℕ) → Option (List ℕ) → Bool
  is_another_beside claim None = false
  is_another_beside claim (Some text) = claims_another claim (hash_beside types v token text)

module _ {AC GC Key Use : Type 0} (types : SiteTypes AC GC Key Use) where
  -- the same of the `at_hash` of a token and the hash of the access token beside it
  abbrev pub hash_refusal : SeenLoginClient Key → SeenIdToken AC GC → List ℕ → Option SigningError
  hash_refusal client token access_token =
      refusal_of_claim (claimed_hash token) (hash_beside types (verifier_of types client) token access_token)

  abbrev pub has_another_hash : SeenLoginClient Key → SeenIdToken AC GC → List ℕ → Bool
  has_another_hash client token access_token =
      claims_another (claimed_hash token) (hash_beside types (verifier_of types client) token access_token)
