-- The text of a token that is issued is read as that token.
use Rattle.std.proofs.Common.{◌≡◌, ℕ, List, [], ◌∷◌, ◌++◌, Option, Some, Result, Ok, codes, refl, ap, ◌∙◌, All, append_assoc}
use Rattle.oidc_members.specs.Seen.{SeenMember, OutSeen}
use Rattle.oidc_members.specs.Write.{object_text}
use Rattle.oidc_members.specs.declared.refusal.Refusal.{Refusal}
use Rattle.oidc_readers.specs.Records.{◌>>=◌}
use Rattle.oidc_readers.specs.WrittenBack.{IsUtf8Member}
use Rattle.oidc_jwt.specs.Header.{written_header}
use Rattle.oidc_jwt.specs.Tokens.{Parts, three_parts, token_of}
use Rattle.oidc_jwt.specs.Encoded.{Encodes, IsMessage}
use Rattle.oidc_jwt.specs.Issuing.{ComesBack, IsNamed, signed_with, message_of}
use Rattle.oidc_jwt.proofs.Issued.{parts_again, payload_again}
use Rattle.oidc_jwt.proofs.HeaderBack.{header_again}

-- a message is the one of its header and its payload
pub message_is : (message : List ℕ) (header payload : List OutSeen) → IsMessage message (object_text header) (object_text payload) → message ≡ message_of header payload
message_is message header payload m = m.joined ∙ (λ i. m.head.same i ++ codes "." ++ m.body.same i)

module _
    {JE JS P : Type 0}
    (encryption_named : List ℕ → Option JE)
    (signing_named : List ℕ → Option JS)
    (payload_read : List SeenMember → Result P Refusal)
    (payload_out : P → List OutSeen)
    (alg_text : JS → List ℕ)
    (alg : JS)
    (id : Option (List ℕ))
    (payload : P)
    (named : IsNamed alg_text signing_named alg)
    (back : ComesBack payload_read payload_out payload)
    (header_texts : All IsUtf8Member (written_header (alg_text alg) id))
    (payload_texts : All IsUtf8Member (payload_out payload)) where
  pub token_again : (text message z signature : List ℕ) → IsMessage message (object_text (written_header (alg_text alg) id)) (object_text (payload_out payload)) → Encodes z signature
      → text ≡ message ++ codes "." ++ z
      → token_of encryption_named signing_named payload_read text ≡ Ok (record { text = text; header = signed_with alg id; payload = payload; message = message; signature = signature })
  unfolding token_of
  token_again text message z signature m last is =
      let whole : message ≡ m.first ++ 46 ∷ m.second = m.joined ∙ append_assoc m.first (46 ∷ []) m.second in
      let joined : text ≡ (m.first ++ 46 ∷ m.second) ++ 46 ∷ z = is ∙ append_assoc message (46 ∷ []) z ∙ ap (λ t. t ++ 46 ∷ z) whole in
      let parts : three_parts text ≡ Some (record { header = m.first; payload = m.second; signature = z }) = ap three_parts joined ∙ parts_again m.first m.second z _ _ signature m.head m.body last in
      rw (
        m.joined,
        parts,
        m.head.back,
        m.body.back,
        last.back,
        header_again encryption_named signing_named (alg_text alg) alg named.other_than_none named.read_back id header_texts,
        payload_again payload_read payload_out payload back payload_texts,
      ) refl
