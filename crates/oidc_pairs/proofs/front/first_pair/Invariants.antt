use Rattle.std.proofs.Common.{◌≡◌, ◌≤◌, length}
use Rattle.form_urlencoded.specs.Form.{raw_pairs}
use Rattle.oidc_pairs.proofs.front.first_pair.Given as goal

-- the pieces so far are empty
abbrev pub invariant-loop-rest : goal.invariant-loop-rest
invariant-loop-rest l = record {
  same : raw_pairs l.rest ≡ raw_pairs l.text;
  within : length l.rest ≤ length l.text;
}

abbrev pub decreases-loop-rest : goal.decreases-loop-rest
decreases-loop-rest l = length l.rest
