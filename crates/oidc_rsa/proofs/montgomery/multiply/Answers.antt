use Rattle.std.proofs.Common.{◌≡◌, ◌+◌, ◌*◌, ◌^◌, length, get_or, take, ap, ◌∙◌, arith}
use Rattle.std.proofs.lemmas.List.{take_all}
use Rattle.oidc_rsa.specs.Limbs.{value, value_with_bit}
use Rattle.oidc_rsa.proofs.Residues.{rows_step, rows_bound, rows_below, rows_product}
use Rattle.oidc_rsa.proofs.Values.{weight-more, value-take, value-take-lt, value-zeros}
use Rattle.oidc_rsa.proofs.montgomery.multiply.Goals as goal

pub loop-digit-init : goal.loop-digit-init
loop-digit-init c =
    let cleared = ap value (c.fill.ensures.after (λ _ h. h)) ∙ value-zeros (length c.args.out.now) in
    (0, omega arith, omega arith)

pub loop-digit-preserved : goal.loop-digit-preserved
loop-digit-preserved c =
    let i = c.loop-digit.digit-index in let a = c.args.a.now in
    let P = 2 ^ (64 * i) in let Q = 2 ^ (64 * (i + 1)) in
    let so_far = c.loop-digit.invariant in let row = c.add_row-top.ensures in (
      so_far.0 + P * row.0,
      rows_bound (2 ^ 64) P Q so_far.0 row.0 (weight-more i) so_far.1 row.1,
      rows_step (2 ^ 64) P Q (value_with_bit c.loop-digit.out c.loop-digit.top) (value_with_bit c.add_row-top.new.sum c.add_row-top.result)
          (value (take i a)) (value (take (i + 1) a)) (value c.args.b.now) (get_or a i 0) (value c.args.n.now) row.0 so_far.0
          (weight-more i) row.2 (value-take a i (omega arith)) so_far.2,
    )

pub reduce_once-requires-clause-below_twice : goal.reduce_once-requires-clause-below_twice
reduce_once-requires-clause-below_twice c =
    let i = c.loop-digit.digit-index in let a = c.args.a.now in
    let rows = c.loop-digit.invariant in
    rows_below (2 ^ (64 * i)) (value_with_bit c.loop-digit.out c.loop-digit.top) (value (take i a)) (value c.args.b.now) rows.0 (value c.args.n.now)
    rows.2 (value-take-lt a i c.type_inv.a) rows.1 c.requires.reduced

pub returns-clause-product : goal.returns-clause-product
returns-clause-product c =
    let i = c.loop-digit.digit-index in let a = c.args.a.now in
    let rows = c.loop-digit.invariant in
    let end : i ≡ length c.args.n.now = omega arith in
    let all : take i a ≡ a = take_all i a (omega arith) in
    rw (all, end) at (rows_product (2 ^ (64 * i)) (value_with_bit c.loop-digit.out c.loop-digit.top) (value (take i a)) (value c.args.b.now) rows.0 (value c.args.n.now)
    (value c.reduce_once.new.limbs) rows.2 c.reduce_once.ensures)
