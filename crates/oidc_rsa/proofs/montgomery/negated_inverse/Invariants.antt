use Rattle.std.proofs.Common.{◌≡◌, ◌+◌, ◌*◌, ◌^◌, ◌%◌}
use Rattle.oidc_rsa.proofs.montgomery.negated_inverse.Given as goal

-- n * inverse + 1 is squared at each step, from n + 1 on
abbrev pub invariant-loop-step : goal.invariant-loop-step
invariant-loop-step l = (l.n * l.inverse + 1) % 2 ^ 64 ≡ (l.n + 1) ^ (2 ^ l._step) % 2 ^ 64
