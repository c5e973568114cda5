use Rattle.std.proofs.Common.{◌≡◌, take}
use Rattle.std.specs.Ordering.{nat_cmp}
use Rattle.oidc_rsa.specs.Limbs.{value}
use Rattle.oidc_rsa.proofs.limbs.compare.Given as goal

-- the order of the limbs so far
abbrev pub invariant-loop-i : goal.invariant-loop-i
invariant-loop-i l = l.order ≡ nat_cmp (value (take l.i l.left)) (value (take l.i l.right))
