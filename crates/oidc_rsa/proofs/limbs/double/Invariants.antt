use Rattle.std.proofs.Common.{◌≡◌, ◌+◌, ◌*◌, ◌^◌, drop}
use Rattle.std.specs.Int.{from_bool}
use Rattle.oidc_rsa.specs.Limbs.{value}
use Rattle.oidc_rsa.proofs.limbs.double.Given as goal

-- the limbs from i on are still to be added
abbrev pub invariant-loop-i : goal.invariant-loop-i
invariant-loop-i l = value l.limbs + 2 ^ (64 * l.i) * (from_bool l.carry + value (drop l.i l.limbs)) ≡ 2 * value l.fn.limbs
