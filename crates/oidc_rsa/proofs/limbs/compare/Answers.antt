use Rattle.std.proofs.Common.{◌*◌, ◌^◌, arith, take, get_or}
use Rattle.oidc_rsa.specs.Limbs.{value}
use Rattle.oidc_rsa.proofs.Steps.{compare_step}
use Rattle.oidc_rsa.proofs.Values.{value-take, value-take-lt}
use Rattle.oidc_rsa.proofs.limbs.compare.Goals as goal

pub loop-i-preserved : goal.loop-i-preserved
loop-i-preserved c =
    let i = c.loop-i.i in let left = c.args.left.now in let right = c.args.right.now in
    rw (c.then-order.ensures, c.cmp.ensures, c.loop-i.invariant, value-take left i (omega arith), value-take right i (omega arith))
    (compare_step (2 ^ (64 * i)) (value (take i left)) (value (take i right)) (get_or left i 0) (get_or right i 0)
    (value-take-lt left i c.type_inv.left) (value-take-lt right i c.type_inv.right))
