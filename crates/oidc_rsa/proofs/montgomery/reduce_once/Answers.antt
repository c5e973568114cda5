use Rattle.std.proofs.Common.{◌≡◌, ◌*◌, ◌^◌, length, ap, ◌∙◌, arith}
use Rattle.std.specs.Ordering.{is_lt}
use Rattle.oidc_rsa.specs.Limbs.{value}
use Rattle.oidc_rsa.proofs.Residues.{subtracted_once, over_from_test}
use Rattle.oidc_rsa.proofs.Values.{value-lt}
use Rattle.oidc_rsa.proofs.montgomery.reduce_once.Goals as goal

pub returns-then-top : goal.returns-then-top
returns-then-top c =
    let limbs = c.args.limbs.now in let n = c.args.n.now in
    let over = over_from_test (value limbs) (value n) c.args.top c.is_lt-is_below.result c.then-top.either (c.is_lt-is_below.ensures ∙ ap is_lt c.compare.ensures) in
    let same : length c.subtract.new.left ≡ length limbs = omega arith in
    let as_n : length n ≡ length limbs = omega arith in
    subtracted_once (2 ^ (64 * length limbs)) (value limbs) (value c.subtract.new.left) (value n) c.args.top c.subtract.result
    c.subtract.ensures (rw same at (value-lt c.subtract.new.left c.type_inv.limbs)) (rw as_n at (value-lt n c.type_inv.n)) over c.requires.below_twice
