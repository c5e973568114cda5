use Rattle.std.proofs.Common.{◌≡◌, ◌*◌, ◌≤◌, take}
use Rattle.form_urlencoded.specs.Form.{byte_serialize}
use Rattle.oidc_pairs.proofs.escape.push_piece.Given as goal

-- the room holds what the bytes so far are written as
abbrev pub invariant-loop-byte : goal.invariant-loop-byte
invariant-loop-byte l = record {
  bytes : take l.used l.room ≡ byte_serialize (take l.byte-index l.piece);
  end : l.used ≤ 3 * l.byte-index;
}
