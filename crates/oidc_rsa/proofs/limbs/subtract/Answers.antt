use Rattle.std.proofs.Common.{◌*◌, ◌^◌, arith}
use Rattle.oidc_rsa.proofs.Steps.{subtract_step}
use Rattle.oidc_rsa.proofs.Values.{weight-more, value-set, value-take}
use Rattle.oidc_rsa.proofs.limbs.subtract.Goals as goal

pub loop-i-preserved : goal.loop-i-preserved
loop-i-preserved c =
    let i = c.loop-i.i in
    subtract_step (2 ^ 64) (2 ^ (64 * i)) _ _ _ _ _ _ _ _ _ _ _
    (weight-more i)
    (value-set c.loop-i.left i c.borrowing_sub-difference.result.0 (omega arith))
    (value-take c.args.right.now i (omega arith))
    c.borrowing_sub-difference.ensures
    c.loop-i.invariant
