use Rattle.std.proofs.Common.{◌≡◌, ◌++◌, ◌∙◌, Ok, codes, refl, sym, ap, subst, string_bytes, length}
use Rattle.std.specs.Prelude.{IsCharBoundary}
use Rattle.oidc_jwt.specs.Header.{written_header}
use Rattle.oidc_jwt.specs.Encoded.{Encodes, IsReady}
use Rattle.oidc_jwt.specs.Issuing.{IsHeadedBy, compact, signed_with}
use Rattle.oidc_jwt.proofs.IssuedToken.{ready_message, issued_is, message_at, token_is}
use Rattle.oidc_jwt.proofs.TokenBack.{token_again}
use Rattle.oidc_readers.proofs.Theorems.{standing_free}
use Rattle.oidc_jwt.proofs.jwt.JsonWebToken.new.Goals as goal

pub invariant_of-result : goal.invariant_of-result
invariant_of-result g c =
    let last = c.in_ok-text.ensures in
    subst (λ n. IsCharBoundary (string_bytes c.in_ok-text.text) n) (sym (ap length c.as_str-2.ensures.value))
    (message_at (string_bytes c.in_ok-text.text) (string_bytes c.in_ok-unsigned.unsigned.message) last.0
    (last.2 ∙ ap (λ m. m ++ codes "." ++ last.0) c.as_str.ensures.value))

pub returns : goal.returns
returns g c =
    let alg_text = g.JS.ClosedVocabulary.as_ref in
    let payload_out = g.P.Payload.write_of in
    let alg = c.args.alg.now in
    let payload = c.args.payload in
    let signs = g.S.PrivateSigningKey.signs c.args.key.now alg in
    let id = g.S.VerificationKey.JsonWebKey.key_id (g.S.PrivateSigningKey.verification_key c.args.key.now) in
    let message = string_bytes c.in_ok-unsigned.unsigned.message in
    let signature = c.new.result in
    let text = string_bytes c.in_ok-text.text in
    let ready : IsReady (written_header (alg_text alg) id) (payload_out payload) message =
    subst (λ t. IsReady (written_header t id) (payload_out payload) message) c.as_ref.ensures.text c.in_ok-unsigned.ensures.ready in
    let headed : IsHeadedBy message (written_header (alg_text alg) id) =
    subst (λ t. IsHeadedBy message (written_header t id)) c.as_ref.ensures.text c.in_ok-unsigned.ensures.headed in
    let said : signs message ≡ Ok signature = ap signs (sym c.as_bytes.ensures.value) ∙ c.in_ok-signature.ensures.signature ∙ ap Ok (sym c.new.ensures.bytes) in
    let last = c.in_ok-text.ensures in
    let is : text ≡ message ++ codes "." ++ last.0 = last.2 ∙ ap (λ m. m ++ codes "." ++ last.0) c.as_str.ensures.value in
    let encodes : Encodes last.0 signature = subst (Encodes last.0) (c.as_slice.ensures.value ∙ sym c.new.ensures.bytes) last.1 in
    let made = token_is {JE = g.row.JE.Denot} id alg payload text message last.0 signature (length c.as_str-2.result.now) c.in_ok-unsigned.unsigned.key_id (ap length c.as_str-2.ensures.value) c.in_ok-unsigned.ensures.key_id encodes is in
    let whole : text ≡ compact message signature = is ∙ ap (λ l. message ++ codes "." ++ l) encodes.same in
    record {
      issued = λ free. issued_is alg_text payload_out signs id alg payload message signature (ready_message alg_text payload_out id alg payload message ready free) said ∙ ap Ok (sym made);
      header = ap (λ t. t.header) made;
      payload = refl;
      head = subst (λ m. IsHeadedBy m (written_header (alg_text alg) id)) (sym (ap (λ t. t.message) made)) headed;
      signed = ap signs (ap (λ t. t.message) made) ∙ said;
      text = whole ∙ ap (λ m. compact m signature) (sym (ap (λ t. t.message) made));
      refused = tt;
      reads_back = λ reading named back.
          token_again g.JE.ClosedVocabulary.from_str g.JS.ClosedVocabulary.from_str (g.P.Payload.read_of reading) payload_out alg_text alg id payload named back ready.header_texts ready.payload_texts text message
          last.0 signature (ready.of_members (standing_free (payload_out payload) back.values)) encodes is
          ∙ (λ i. Ok (record { text = whole i; header = signed_with alg id; payload = payload; message = message; signature = signature }))
          ∙ ap Ok (sym made);
    }
