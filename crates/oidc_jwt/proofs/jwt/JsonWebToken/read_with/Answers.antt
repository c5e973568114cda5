use Rattle.std.proofs.Common.{◌+◌, Ok, length, sym, ap, ◌∙◌}
use Rattle.oidc_jwt.specs.Header.{header_of}
use Rattle.oidc_jwt.specs.Tokens.{Parts, object_read}
use Rattle.oidc_jwt.proofs.PartsOf.{message_bounded, token_back}
use Rattle.oidc_jwt.proofs.jwt.JsonWebToken.read_with.Goals as goal

pub invariant_of-result : goal.invariant_of-result
invariant_of-result g c = rw (c.in_ok-text.ensures.ok, c.message_len.ensures) (message_bounded c.args.text.now c.in_ok-parts.parts c.in_ok-parts.ensures)

pub returns : goal.returns
returns g c =
    let encryption_named = g.JE.ClosedVocabulary.from_str in
    let signing_named = g.JS.ClosedVocabulary.from_str in
    let reads = g.P.Payload.read_of c.args.reading in
    let parts : Parts = record { header = c.parts.inside.header.now; payload = c.parts.inside.payload.now; signature = c.parts.inside.signature.now } in
    record {
      answer = token_back encryption_named signing_named reads c.args.text.now _ _ parts c.in_ok-first.first c.in_ok-second.second _ _ _
          c.in_ok-text.ensures.ok
          (c.message_len.ensures ∙ ap (λ (p : Parts). length p.header + 1 + length p.payload) (sym c.parts.view_is))
          (c.in_ok-parts.ensures ∙ ap Ok (sym c.parts.view_is))
          c.in_ok-first.ensures
          c.in_ok-second.ensures
          c.in_ok-signature.ensures
          (ap (object_read (header_of encryption_named signing_named)) (sym c.as_slice.ensures.bytes) ∙ c.in_ok-header.ensures)
          (ap (object_read reads) (sym c.as_slice-2.ensures.bytes) ∙ c.in_ok-payload.ensures);
    }
