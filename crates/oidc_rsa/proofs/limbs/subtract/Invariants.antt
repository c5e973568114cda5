use Rattle.std.proofs.Common.{◌≡◌, ◌+◌, ◌*◌, ◌^◌, take}
use Rattle.std.specs.Int.{from_bool}
use Rattle.oidc_rsa.specs.Limbs.{value}
use Rattle.oidc_rsa.proofs.limbs.subtract.Given as goal

-- the first limbs of the right one are subtracted from the whole of the left one
abbrev pub invariant-loop-i : goal.invariant-loop-i
invariant-loop-i l = value l.left + value (take l.i l.right) ≡ value l.fn.left + from_bool l.borrow * 2 ^ (64 * l.i)
