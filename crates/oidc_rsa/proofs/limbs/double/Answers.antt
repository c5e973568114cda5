use Rattle.std.proofs.Common.{◌+◌, ◌*◌, ◌^◌, drop, get_or, ap, arith}
use Rattle.std.proofs.lemmas.List.{drop_more, drop-set-lt}
use Rattle.std.specs.Int.{from_bool}
use Rattle.oidc_rsa.specs.Limbs.{value}
use Rattle.oidc_rsa.proofs.Steps.{double_step}
use Rattle.oidc_rsa.proofs.Values.{weight-more, value-set}
use Rattle.oidc_rsa.proofs.limbs.double.Goals as goal

pub loop-i-preserved : goal.loop-i-preserved
loop-i-preserved c =
    let i = c.loop-i.i in let limbs = c.loop-i.limbs in let sum = c.carrying_add-sum.result.0 in
    rw (drop-set-lt (i + 1) limbs i sum (omega arith)) (double_step (2 ^ 64) (2 ^ (64 * i)) _ (value limbs) _ (get_or limbs i 0) sum
    (from_bool c.loop-i.carry) (from_bool c.carrying_add-sum.result.1)
    (value (drop i limbs)) (value (drop (i + 1) limbs)) (2 * value c.args.limbs.now)
    (weight-more i) (value-set limbs i sum (omega arith)) (ap value (drop_more limbs i 0 (omega arith))) c.carrying_add-sum.ensures c.loop-i.invariant)
