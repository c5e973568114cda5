use Rattle.std.proofs.Common.{◌++◌, IsAscii, slice_index, sym, ap, ◌∙◌, subst, arith}
use Rattle.form_urlencoded.specs.Form.{serialize_byte}
use Rattle.form_urlencoded.proofs.FormLemmas.{byte_serialize-nil, IsAscii-byte_serialize}
use Rattle.oidc_pairs.proofs.Escapes.{escaped_more}
use Rattle.oidc_pairs.proofs.escape.push_piece.Goals as goal

pub loop-byte-init : goal.loop-byte-init
loop-byte-init c = record { bytes = sym byte_serialize-nil; end = omega arith }

pub loop-byte-preserved : goal.loop-byte-preserved
loop-byte-preserved c =
    let piece = c.args.piece.now in
    let at = c.loop-byte.byte-index in
    record {
      bytes =
          c.put-used.ensures.bytes
          ∙ ap (λ x. x ++ serialize_byte (slice_index piece at)) c.loop-byte.invariant.bytes
          ∙ sym (escaped_more piece at 0 c.loop-byte-test.true);
      end = omega arith;
    }

pub ascii_str-requires : goal.ascii_str-requires
ascii_str-requires c = subst IsAscii (sym c.loop-byte.invariant.bytes) (IsAscii-byte_serialize _)
