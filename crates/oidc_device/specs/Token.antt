-- The tokens that a poll may be answered with, and what is expected of the ID token among them: OpenID Connect Core 1.0
-- sections 2, 3.1.3.3, 3.1.3.6 and 3.1.3.7. No nonce was sent, so any is allowed, and so is none.
use Rattle.std.specs.Prelude.{◌≡◌, ℕ, ℤ, List, [], Bool, false, not, Option, None, Some, Result, Ok, Err}
use Rattle.std.specs.Str.{bytes_eq}
use Rattle.oidc_members.specs.Seen.{SeenMember}
use Rattle.oidc_members.specs.declared.reading.Reading.{Reading}
use Rattle.oidc_members.specs.declared.refusal.Refusal.{Refusal}
use Rattle.oidc_types.specs.{signing_text}
use Rattle.oidc_types.specs.declared.signing_error.SigningError.{SigningError}
use Rattle.oidc_types.specs.declared.core_algorithms.CoreJwsSigningAlgorithm.{CoreJwsSigningAlgorithm}
use Rattle.oidc_types.specs.declared.core_algorithms.CoreJweContentEncryptionAlgorithm.{CoreJweContentEncryptionAlgorithm}
use Rattle.oidc_keys.specs.declared.refusals.SignatureVerificationError.{SignatureVerificationError}
use Rattle.oidc_oauth2.specs.Words.{token_type_of}
use Rattle.oidc_oauth2.specs.Replies.{◌>>=◌}
use Rattle.oidc_oauth2.specs.TokenResponse.{SeenTokens, tokens_among}
use Rattle.oidc_oauth2.specs.declared.token_type.CoreTokenType.{CoreTokenType}
use Rattle.oidc_oauth2.specs.declared.extra_fields.EmptyExtraTokenFields.{EmptyExtraTokenFields}
use Rattle.oidc_jwt.specs.Tokens.{SeenToken, token_of}
use Rattle.oidc_jwt.specs.declared.header.JsonWebTokenAlgorithm.TheVariants as algorithm
use Rattle.oidc_id_token_claims.specs.IdTokenClaims.{SeenIdTokenClaims, id_token_claims_of}
use Rattle.oidc_tokens.specs.Signatures.{SeenVerifier, signing_alg, key_for, checking_key}
use Rattle.oidc_tokens.specs.Verification.{Accepts, first_failure}
use Rattle.oidc_tokens.specs.Causes.{Cause}
use Rattle.oidc_tokens.specs.Refreshed.{any_nonce, FitsHash}
use Rattle.oidc_tokens.specs.Hashes.{Hashing, hashing, hash_text, hash_or_refusal}
use Rattle.oidc_tokens.specs.IdTokenFields.{SeenIdTokenFields, response_fields_of}
use Rattle.oidc_tokens.specs.declared.verification.refusals.ClaimsVerificationError.{ClaimsVerificationError}
use Rattle.oidc_client.specs.Client as clients
use Rattle.oidc_device.specs.Types.{DeviceTypes, SeenDeviceClient}

-- ---- tokens

-- an ID token with these additional claims and genders
abbrev pub SeenIdToken : Type 0 → Type 0 → Type 0
SeenIdToken AC GC = SeenToken CoreJweContentEncryptionAlgorithm CoreJwsSigningAlgorithm (SeenIdTokenClaims AC GC)

-- the fields beside those of RFC 6749: an ID token, where there is one, and no others
abbrev pub Fields : Type 0 → Type 0 → Type 0
Fields AC GC = SeenIdTokenFields (SeenIdToken AC GC) EmptyExtraTokenFields

abbrev pub no_others : List SeenMember → Result EmptyExtraTokenFields Refusal
no_others members = Ok (record {})

abbrev pub Tokens : Type 0 → Type 0 → Type 0
Tokens AC GC = SeenTokens CoreTokenType (Fields AC GC)

module _ {AC GC Key Use : Type 0} (types : DeviceTypes AC GC Key Use) where
  -- the ID token that a text is under a reading, or why it is none
  abbrev pub id_token_of : Reading → List ℕ → Result (SeenIdToken AC GC) Refusal
  id_token_of reading = token_of types.encryption_named types.signing_named (id_token_claims_of types.additional types.gender reading)

  -- the tokens that the members of an object are, with the ID token under a reading
  abbrev pub tokens_read : Reading → List SeenMember → Result (Tokens AC GC) Refusal
  tokens_read reading = tokens_among token_type_of (response_fields_of (id_token_of reading) no_others)

-- ---- what is expected of the ID token

abbrev pub KeyVerifier : Type 0 → Type 0
KeyVerifier Key = SeenVerifier Key CoreJwsSigningAlgorithm

module _ {AC GC Key Use : Type 0} (types : DeviceTypes AC GC Key Use) where
  -- what a client expects: a token for itself, by its issuer, signed by an algorithm that it allows under its
  -- own secret or under one of the issuer's keys
  abbrev pub device_verifier : SeenDeviceClient Key → KeyVerifier Key
  device_verifier = clients.verifier_of types.keys.keys.symmetric_of

  -- a client accepts the token at this moment (nanoseconds since the Unix epoch)
  abbrev pub IsAcceptedBy : SeenDeviceClient Key → ℤ → SeenIdToken AC GC → Type 0
  IsAcceptedBy client now token = Accepts types.keys (device_verifier client) any_nonce now token

  -- the first check of a token that fails
  abbrev pub failure_for : SeenDeviceClient Key → ℤ → SeenIdToken AC GC → Option ClaimsVerificationError
  failure_for client now token = first_failure types.keys (device_verifier client) any_nonce now token

  -- why a check of a token fails, said by itself
  abbrev pub FailsFor : SeenDeviceClient Key → ℤ → SeenIdToken AC GC → ClaimsVerificationError → Type 0
  FailsFor client now token kind = Cause types.keys (device_verifier client) any_nonce now token kind

-- ---- the hash of the access token that the ID token beside it may hold

-- the `at_hash` of an ID token, where it has one
abbrev pub claimed_hash : {AC GC : Type 0} → SeenIdToken AC GC → Option (List ℕ)
claimed_hash token = token.payload.own.access_token_hash

module _ {AC GC Key Use : Type 0} (types : DeviceTypes AC GC Key Use) where
  -- the hash of a text by the hash function that goes with an algorithm under a key, where there is one
  abbrev pub hash_under : Key → CoreJwsSigningAlgorithm → List ℕ → Option (List ℕ)
  hash_under key alg text = hash_text (types.keys.keys.hash_of key alg) text

  -- An `at_hash`, where there is one, is the hash of this access token by the algorithm that the ID token is signed by,
  -- under the key that checks it for this client.
  abbrev pub HasOwnHash : SeenDeviceClient Key → SeenIdToken AC GC → List ℕ → Type 0
  HasOwnHash client token access_token =
      (alg : CoreJwsSigningAlgorithm) (key : Key) → token.header.alg ≡ algorithm.Signature alg
      → key_for types.keys (device_verifier types client) token.header.kid alg ≡ Ok key
      → FitsHash types.keys token alg key access_token

  -- ---- the same as a value, for any token

  -- the hash function that goes with the algorithm of a token, under the key that checks it
  abbrev pub hashing_found : KeyVerifier Key → SeenIdToken AC GC → Result Hashing SignatureVerificationError
  hashing_found v token = do
    alg ← signing_alg token.header.alg
    key ← checking_key types.keys v token
    Ok (hashing (signing_text alg) (types.keys.keys.hash_of key alg))

-- A token without an algorithm or a key has none, and no name of an algorithm. It is never accepted.
abbrev pub or_no_hash : Result Hashing SignatureVerificationError → Hashing
or_no_hash (Ok by) = by
or_no_hash (Err refusal) = hashing [] None

-- the hash of an access token beside an ID token, or why it has none
unfoldable pub hash_beside : {AC GC Key Use : Type 0} → DeviceTypes AC GC Key Use → KeyVerifier Key
    → SeenIdToken AC GC → List ℕ → Result (List ℕ) SigningError
hash_beside types v token text = hash_or_refusal (or_no_hash (hashing_found types v token)) text

-- why there is no hash, where one is claimed
abbrev pub refusal_of_claim : Option (List ℕ) → Result (List ℕ) SigningError → Option SigningError
refusal_of_claim None hash = None
refusal_of_claim (Some claim) (Ok hash) = None
refusal_of_claim (Some claim) (Err refusal) = Some refusal

-- another one is claimed
abbrev pub claims_another : Option (List ℕ) → Result (List ℕ) SigningError → Bool
claims_another None hash = false
claims_another (Some claim) (Ok hash) = not (bytes_eq hash claim)
claims_another (Some claim) (Err refusal) = false

module _ {AC GC Key Use : Type 0} (types : DeviceTypes AC GC Key Use) where
  -- both of the `at_hash` of a token and the hash of the access token beside it
  abbrev pub hash_refusal : SeenDeviceClient Key → SeenIdToken AC GC → List ℕ → Option SigningError
  hash_refusal client token access_token =
      refusal_of_claim (claimed_hash token) (hash_beside types (device_verifier types client) token access_token)

  abbrev pub has_another_hash : SeenDeviceClient Key → SeenIdToken AC GC → List ℕ → Bool
  has_another_hash client token access_token =
      claims_another (claimed_hash token) (hash_beside types (device_verifier types client) token access_token)
