-- JSON Web Tokens in the compact serialization, read (RFC 7515 sections 3.1, 5.2 and 7.1, RFC 7519 section 7.2).
use Rattle.std.specs.Prelude.{ℕ, ◌==◌, List, [], ◌∷◌, ◌++◌, Option, None, Some, Result, Ok, codes}
use Rattle.std.specs.List.{slice_split}
use Rattle.std.specs.Option.{ok_or}
use Rattle.base64.specs.GeneralPurpose.{decoded_of}
use Rattle.base64.specs.Engines.{url_safe_no_pad}
use Rattle.oidc_members.specs.Seen.{SeenMember}
use Rattle.oidc_members.specs.Objects.{split_of, of_text}
use Rattle.oidc_members.specs.declared.refusal.Refusal.{Refusal}
use Rattle.oidc_members.specs.declared.refusal.ParseKind.TheVariants.{Token}
use Rattle.oidc_readers.specs.Records.{◌>>=◌}
use Rattle.oidc_jwt.specs.declared.header.TokenHeader.{TokenHeader}
use Rattle.oidc_jwt.specs.Header.{header_of}

-- a token: its text, what its header and its payload say, the message that is signed, and the signature
pub record SeenToken (JE JS P : Type 0) : Type 0 where
  pub text : List ℕ
  pub header : TokenHeader JE JS
  pub payload : P
  pub message : List ℕ
  pub signature : List ℕ

-- the parts of a token, as they stand in its text
pub record Parts : Type 0 where
  pub header : List ℕ
  pub payload : List ℕ
  pub signature : List ℕ

-- exactly three
abbrev pub three : List (List ℕ) → Option Parts
three (header ∷ payload ∷ signature ∷ []) = Some (record { header = header; payload = payload; signature = signature })
three pieces = None

-- the parts between the dots of a text
unfoldable pub three_parts : List ℕ → Option Parts
three_parts text = three (slice_split (λ b. b == 46) text)

-- a text that is no token, which names no field
abbrev pub no_token : Refusal
no_token = of_text Token

-- what a part encodes: base64url without padding, strictly (RFC 7515 section 2, RFC 4648 sections 3.5 and 5)
abbrev pub decoded : List ℕ → Result (List ℕ) Refusal
decoded part = ok_or (decoded_of url_safe_no_pad part) no_token

-- what is read of an object, given as its text
abbrev pub object_read : {A : Type 0} → (List SeenMember → Result A Refusal) → List ℕ → Result A Refusal
object_read reads text = split_of text >>= reads

module _ {JE JS P : Type 0} (encryption_named : List ℕ → Option JE) (signing_named : List ℕ → Option JS)
    (payload_read : List SeenMember → Result P Refusal) where
  -- Every part is decoded before the header is read, and the header is read before the payload. The message
  -- that is signed is the first two parts as they stand, with the dot between them (RFC 7515 section 5.1).
  unfoldable pub token_of : List ℕ → Result (SeenToken JE JS P) Refusal
  token_of text = do
    parts ← ok_or (three_parts text) no_token
    first ← decoded parts.header
    second ← decoded parts.payload
    signature ← decoded parts.signature
    header ← object_read (header_of encryption_named signing_named) first
    payload ← object_read payload_read second
    Ok (record {
      text = text;
      header = header;
      payload = payload;
      message = parts.header ++ codes "." ++ parts.payload;
      signature = signature;
    })
