use Rattle.std.proofs.Common.{ℕ, ◌*◌, ◌/◌, ◌^◌, ◌<◌, length}
use Rattle.oidc_rsa.specs.Limbs.{value, StandsFor}
use Rattle.oidc_rsa.proofs.montgomery.raise.Given as goal

-- the power by the bits from i on
abbrev pub invariant-loop-i : goal.invariant-loop-i
invariant-loop-i l =
    let n = value l.n in let R = 2 ^ (64 * length l.n) in
    record {
      reduced : value l.acc < n;
      power : (x : ℕ) → StandsFor n R (value l.base) x → StandsFor n R (value l.acc) (x ^ (l.exponent / 2 ^ l.i));
    }
