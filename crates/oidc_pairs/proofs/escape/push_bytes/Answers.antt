use Rattle.std.proofs.Common.{rules, ◌∙◌}
use Rattle.std.proofs.lemmas.List.{nil_from_length}
use Rattle.std.specs.String.{string_bytes}
use Rattle.form_urlencoded.specs.Form.{byte_serialize}
use Rattle.oidc_pairs.proofs.Escapes.{piece_written, all_written, begins_still}
use Rattle.oidc_pairs.proofs.escape.push_bytes.Goals as goal

pub loop-rest-preserved : goal.loop-rest-preserved
loop-rest-preserved c = record {
  bytes =
      piece_written (string_bytes c.loop-rest.text) (string_bytes c.push_piece.new.text) c.first_piece.result.0.now c.loop-rest.rest.now
      c.first_piece.result.1.now c.first_piece.ensures.whole (search rules)
      ∙ c.loop-rest.invariant.bytes;
  begun = begins_still (string_bytes c.args.text.now) (string_bytes c.loop-rest.text) (string_bytes c.push_piece.new.text) (byte_serialize c.first_piece.result.0.now) c.loop-rest.invariant.begun (search rules);
}

pub returns-clause-ok : goal.returns-clause-ok
returns-clause-ok c =
    all_written (string_bytes c.loop-rest.text) c.loop-rest.rest.now _ (nil_from_length c.loop-rest.rest.now (search rules)) c.loop-rest.invariant.bytes
