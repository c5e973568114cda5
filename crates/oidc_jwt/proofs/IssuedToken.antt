-- What issuing a token answers, of a message that is ready.
use Rattle.std.proofs.Common.{◌≡◌, ℕ, ◌<◌, List, [], ◌∷◌, ◌++◌, false, Option, Result, Ok, codes, refl, sym, ap, subst, ◌∙◌, All, take, length, get_or, arith, length-append, append_assoc}
use Rattle.std.specs.Prelude.{IsCharBoundary}
use Rattle.std.proofs.Math.Seq.{get_or-append_seam}
use Rattle.std.proofs.lemmas.List.{take_at}
use Rattle.std.proofs.lemmas.Str.{IsCharBoundary-before_ascii}
use Rattle.oidc_types.specs.declared.signing_error.SigningError.{SigningError}
use Rattle.oidc_members.specs.Seen.{OutSeen}
use Rattle.oidc_members.specs.Write.{any_float, object_text}
use Rattle.oidc_readers.specs.WrittenBack.{IsUtf8Member}
use Rattle.oidc_jwt.specs.Header.{written_header}
use Rattle.oidc_jwt.specs.Encoded.{Encodes, IsHeaded, IsMessage, IsReady}
use Rattle.oidc_jwt.specs.Issuing.{message_of, IsHeadedBy, compact, signed_with, token_with, with_signature, issued}
use Rattle.oidc_jwt.specs.Tokens.{SeenToken}
use Rattle.oidc_jwt.proofs.TokenBack.{message_is}
use Rattle.oidc_jwt.proofs.FloatFree.{header_free}

-- the message that is meant
abbrev pub meant_message : {JS P : Type 0} → (JS → List ℕ) → (P → List OutSeen) → Option (List ℕ) → JS → P → List ℕ
meant_message alg_text payload_out id alg payload = message_of (written_header (alg_text alg) id) (payload_out payload)

module _ {JS P : Type 0} (alg_text : JS → List ℕ) (payload_out : P → List OutSeen) (id : Option (List ℕ)) (alg : JS) (payload : P) where
  pub ready_message : (message : List ℕ) → IsReady (written_header (alg_text alg) id) (payload_out payload) message → any_float (payload_out payload) ≡ false
      → message ≡ meant_message alg_text payload_out id alg payload
  ready_message message ready free = message_is message (written_header (alg_text alg) id) (payload_out payload) (ready.of_members free)

module _ {JE JS P : Type 0} (alg_text : JS → List ℕ) (payload_out : P → List OutSeen) (signs : List ℕ → Result (List ℕ) SigningError) (id : Option (List ℕ)) (alg : JS) (payload : P) where
  pub issued_is : (message signature : List ℕ) → message ≡ meant_message alg_text payload_out id alg payload → signs message ≡ Ok signature
      → issued {JE = JE} alg_text payload_out signs id alg payload ≡ Ok (token_with {JE = JE} alg id payload message signature)
  issued_is message signature is said =
      ap (λ m. with_signature {JE = JE} alg id payload m (signs m)) (sym is) ∙ ap (with_signature {JE = JE} alg id payload message) said

-- ---- the text

pub message_first : (text message last : List ℕ) → text ≡ message ++ codes "." ++ last → take (length message) text ≡ message
message_first text message last is = ap (take (length message)) (is ∙ append_assoc message (46 ∷ []) last) ∙ take_at message (46 ∷ last) (length message) refl

pub message_at : (text message last : List ℕ) → text ≡ message ++ codes "." ++ last → IsCharBoundary text (length message)
message_at text message last is =
    let within : length message < length text = omega (arith, ap length is, length-append {A = ℕ}) in
    let dot : get_or text (length message) 0 ≡ 46 = ap (λ t. get_or t (length message) 0) (is ∙ append_assoc message (46 ∷ []) last) ∙ get_or-append_seam message 46 last 0 in
    IsCharBoundary-before_ascii text (length message) within (omega (arith, dot))

-- ---- the token that was made

module _ {JE JS P : Type 0} (id : Option (List ℕ)) (alg : JS) (payload : P) where
  -- what stands behind a message that is taken from the text
  pub token_is : (text message last signature : List ℕ) (n : ℕ) (kid : Option (List ℕ)) → n ≡ length message → kid ≡ id → Encodes last signature → text ≡ message ++ codes "." ++ last
      → ◌≡◌ {A = SeenToken JE JS P} (record { text = text; header = signed_with alg kid; payload = payload; message = take n text; signature = signature }) (token_with alg id payload message signature)
  token_is text message last signature n kid len named last_is is =
      let whole : text ≡ compact message signature = is ∙ ap (λ l. message ++ codes "." ++ l) last_is.same in
      let first : take n text ≡ message = ap (λ n. take n text) len ∙ message_first text message last is in
      λ i. record { text = whole i; header = signed_with alg (named i); payload = payload; message = first i; signature = signature }

-- ---- the message that was made

-- a message of members that are these
pub ready_of : (alg_text : List ℕ) (id : Option (List ℕ)) (payload : List OutSeen) (message : List ℕ) (header_items payload_items header_given payload_given : List OutSeen)
    → header_items ≡ written_header alg_text id → payload_items ≡ payload → header_given ≡ header_items → payload_given ≡ payload_items
    → All IsUtf8Member header_items → All IsUtf8Member payload_items
    → (any_float header_given ≡ false → any_float payload_given ≡ false → IsMessage message (object_text header_given) (object_text payload_given))
    → IsReady (written_header alg_text id) payload message
ready_of alg_text id payload message header_items payload_items header_given payload_given header_is payload_is header_from payload_from header_texts payload_texts made =
    let header : header_given ≡ written_header alg_text id = header_from ∙ header_is in
    let body : payload_given ≡ payload = payload_from ∙ payload_is in
    record {
      of_members = λ free.
          subst (λ h. IsMessage message (object_text h) (object_text payload)) header
          (subst (λ p. IsMessage message (object_text header_given) (object_text p)) body (made (ap any_float header ∙ header_free alg_text id) (ap any_float body ∙ free)));
      header_texts = subst (All IsUtf8Member) header_is header_texts;
      payload_texts = subst (All IsUtf8Member) payload_is payload_texts;
    }

-- and one whose first part is that of this header
pub headed_of : (alg_text : List ℕ) (id : Option (List ℕ)) (message : List ℕ) (header_items header_given : List OutSeen)
    → header_items ≡ written_header alg_text id → header_given ≡ header_items
    → (any_float header_given ≡ false → IsHeaded message (object_text header_given))
    → IsHeaded message (object_text (written_header alg_text id))
headed_of alg_text id message header_items header_given header_is header_from made =
    let header : header_given ≡ written_header alg_text id = header_from ∙ header_is in
    subst (λ h. IsHeaded message (object_text h)) header (made (ap any_float header ∙ header_free alg_text id))

pub headed_by : (alg_text : List ℕ) (id : Option (List ℕ)) (message : List ℕ) → IsHeaded message (object_text (written_header alg_text id)) → IsHeadedBy message (written_header alg_text id)
headed_by alg_text id message h = (h.rest, h.joined ∙ ap (λ f. f ++ codes "." ++ h.rest) h.head.same)
