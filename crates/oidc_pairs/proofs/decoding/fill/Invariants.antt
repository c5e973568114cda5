use Rattle.std.proofs.Common.{◌≡◌, ◌++◌, ◌+◌, ◌≤◌, length, take}
use Rattle.form_urlencoded.specs.Form.{decode}
use Rattle.oidc_pairs.proofs.decoding.fill.Given as goal

abbrev pub invariant-loop-used : goal.invariant-loop-used
invariant-loop-used l = record {
  bytes : take l.used l.room ++ decode l.rest ≡ decode l.encoded;
  room : l.used ≤ 32;
  shorter : length l.rest + l.used ≤ length l.encoded;
}

abbrev pub decreases-loop-used : goal.decreases-loop-used
decreases-loop-used l = length l.rest
