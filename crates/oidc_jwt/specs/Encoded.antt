-- What is known of texts that were encoded. No public clause cites this.
use Rattle.std.specs.Prelude.{◌≡◌, ℕ, ◌==◌, false, List, ◌++◌, All, Ok, codes}
use Rattle.oidc_members.specs.Seen.{OutSeen}
use Rattle.oidc_members.specs.Write.{any_float, object_text}
use Rattle.oidc_readers.specs.WrittenBack.{IsUtf8Member}
use Rattle.oidc_jwt.specs.Tokens.{decoded}
use Rattle.oidc_jwt.specs.Issuing.{encoded}

-- A text encodes these bytes: it is decoded as them, and has no dot.
pub record Encodes (text bytes : List ℕ) : Type 0 where
  pub same : text ≡ encoded bytes
  pub back : decoded text ≡ Ok bytes
  pub undotted : All (λ b. (b == 46) ≡ false) text

-- A message encodes the bytes of a header and those of a payload.
pub record IsMessage (message header payload : List ℕ) : Type 0 where
  pub first : List ℕ
  pub second : List ℕ
  pub head : Encodes first header
  pub body : Encodes second payload
  pub joined : message ≡ first ++ codes "." ++ second

-- A message begins with the encoded bytes of a header, and a dot.
pub record IsHeaded (message header : List ℕ) : Type 0 where
  pub first : List ℕ
  pub rest : List ℕ
  pub head : Encodes first header
  pub joined : message ≡ first ++ codes "." ++ rest

-- A message is ready to be signed: it is that of these members, where no value holds a float, and they are
-- UTF-8.
pub record IsReady (header payload : List OutSeen) (message : List ℕ) : Type 0 where
  pub of_members : any_float payload ≡ false → IsMessage message (object_text header) (object_text payload)
  pub header_texts : All IsUtf8Member header
  pub payload_texts : All IsUtf8Member payload
