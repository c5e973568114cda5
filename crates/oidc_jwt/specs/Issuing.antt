-- JSON Web Tokens, issued (RFC 7515 section 5.1, RFC 7519 section 7.1).
use Rattle.std.specs.Prelude.{◌≡◌, ◌≢◌, ℕ, List, ◌++◌, map, Option, None, Some, false, Result, Ok, Err, codes}
use Rattle.std.specs.List.{All}
use Rattle.base64.specs.GeneralPurpose.{encode_of}
use Rattle.base64.specs.Engines.{url_safe_no_pad}
use Rattle.oidc_members.specs.Seen.{SeenMember, OutSeen}
use Rattle.oidc_members.specs.Write.{object_text}
use Rattle.oidc_members.specs.declared.refusal.Refusal.{Refusal}
use Rattle.oidc_readers.specs.WrittenBack.{MayStand, IsUtf8Member, as_read}
use Rattle.oidc_types.specs.declared.signing_error.SigningError.{SigningError}
use Rattle.oidc_types.specs.declared.signing_error.SigningError.TheVariants as signing
use Rattle.oidc_jwt.specs.declared.header.JsonWebTokenAlgorithm.TheVariants as algorithm
use Rattle.oidc_jwt.specs.declared.header.TokenHeader.{TokenHeader}
use Rattle.oidc_jwt.specs.declared.jwt.JsonWebTokenError.{JsonWebTokenError}
use Rattle.oidc_jwt.specs.declared.jwt.JsonWebTokenError.TheVariants as token_error
use Rattle.oidc_jwt.specs.Header.{written_header}
use Rattle.oidc_jwt.specs.Tokens.{SeenToken}

-- base64url without padding (RFC 7515 section 2)
abbrev pub encoded : List ℕ → List ℕ
encoded bytes = encode_of url_safe_no_pad bytes

-- the message of a header and a payload: each object's text, encoded, with a dot between them
abbrev pub message_of : List OutSeen → List OutSeen → List ℕ
message_of header payload = encoded (object_text header) ++ codes "." ++ encoded (object_text payload)

-- the message, a dot and the signature, encoded
abbrev pub compact : List ℕ → List ℕ → List ℕ
compact message signature = message ++ codes "." ++ encoded signature

abbrev pub signed_with : {JE JS : Type 0} → JS → Option (List ℕ) → TokenHeader JE JS
signed_with alg key_id = record { alg = algorithm.Signature alg; typ = None; cty = None; kid = key_id; crit = false }

module _ {JE JS P : Type 0} where
  -- the token of a payload, which says that it's signed so
  abbrev pub token_with : JS → Option (List ℕ) → P → List ℕ → List ℕ → SeenToken JE JS P
  token_with alg key_id payload message signature = record {
    text = compact message signature;
    header = signed_with alg key_id;
    payload = payload;
    message = message;
    signature = signature;
  }

  abbrev pub with_signature : JS → Option (List ℕ) → P → List ℕ → Result (List ℕ) SigningError
      → Result (SeenToken JE JS P) SigningError
  with_signature alg key_id payload message (Ok signature) =
      Ok (token_with alg key_id payload message signature)
  with_signature alg key_id payload message (Err refusal) = Err refusal

-- a message whose first part, before a dot, is the object of these members, encoded
abbrev pub IsHeadedBy : List ℕ → List OutSeen → Type 0
IsHeadedBy message header = (rest : List ℕ) × (message ≡ encoded (object_text header) ++ codes "." ++ rest)

-- The token that a signer issues, or the signer's refusal. `signs` is what the signer answers for a message
-- by the algorithm, and `key_id` the id of the key that checks it.
abbrev pub issued : {JE JS P : Type 0} → (JS → List ℕ) → (P → List OutSeen)
    → (List ℕ → Result (List ℕ) SigningError) → Option (List ℕ) → JS → P
    → Result (SeenToken JE JS P) SigningError
issued alg_text payload_out signs key_id alg payload =
    let message = message_of (written_header (alg_text alg) key_id) (payload_out payload) in
    with_signature alg key_id payload message (signs message)

-- The answer is the token or the refusal that is meant, or `Memory`.
abbrev pub Issues : {T : Type 0} → Result T SigningError → Result T JsonWebTokenError → Type 0
Issues meant (Ok token) = meant ≡ Ok token
Issues meant (Err (token_error.SigningError refusal)) = meant ≡ Err refusal
Issues meant (Err token_error.Memory) = Unit {0}

-- A signer refuses a message with this header so.
pub record RefusesMessage (header : List OutSeen) (signs : List ℕ → Result (List ℕ) SigningError)
    (refusal : SigningError) : Type 0 where
  pub message : List ℕ
  pub headed : IsHeadedBy message header
  pub refused : signs message ≡ Err refusal

-- That is why there is no token; or there was no memory.
abbrev pub IsRefusedBy : List OutSeen → (List ℕ → Result (List ℕ) SigningError) → JsonWebTokenError → Type 0
IsRefusedBy header signs (token_error.SigningError refusal) = RefusesMessage header signs refusal
IsRefusedBy header signs token_error.Memory = Unit {0}

-- An error of a signer, as one of issuing: want of memory is never inside another error.
abbrev pub issue_error : SigningError → JsonWebTokenError
issue_error signing.Memory = token_error.Memory
issue_error refusal = token_error.SigningError refusal

-- An algorithm whose text names it, and isn't `none`.
pub record IsNamed {JS : Type 0} (text_of : JS → List ℕ) (signing_named : List ℕ → Option JS)
    (alg : JS) : Type 0 where
  pub read_back : signing_named (text_of alg) ≡ Some alg
  pub other_than_none : text_of alg ≢ codes "none"

-- What is written may stand in an object, and reads back where its texts are UTF-8, as a program's are.
pub record ComesBack {P : Type 0} (payload_read : List SeenMember → Result P Refusal)
    (payload_out : P → List OutSeen) (payload : P) : Type 0 where
  pub values : All (λ (m : OutSeen). MayStand m.value) (payload_out payload)
  pub same : All IsUtf8Member (payload_out payload)
      → payload_read (map as_read (payload_out payload)) ≡ Ok payload
