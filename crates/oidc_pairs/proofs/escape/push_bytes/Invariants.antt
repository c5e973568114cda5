use Rattle.std.proofs.Common.{◌≡◌, ◌++◌, length, take}
use Rattle.std.specs.String.{string_bytes}
use Rattle.form_urlencoded.specs.Form.{byte_serialize}
use Rattle.oidc_pairs.proofs.escape.push_bytes.Given as goal

abbrev pub invariant-loop-rest : goal.invariant-loop-rest
invariant-loop-rest l = record {
  bytes : string_bytes l.text ++ byte_serialize l.rest ≡ string_bytes l.initial.text ++ byte_serialize l.bytes;
  begun : take (length (string_bytes l.initial.text)) (string_bytes l.text) ≡ string_bytes l.initial.text;
}

abbrev pub decreases-loop-rest : goal.decreases-loop-rest
decreases-loop-rest l = length l.rest
