use Rattle.std.proofs.Common.{◌*◌, ◌^◌, ◌%◌, get_or, refl, arith}
use Rattle.std.proofs.lemmas.Nat.{mod_below}
use Rattle.oidc_rsa.proofs.Residues.{lowest_is_zero}
use Rattle.oidc_rsa.proofs.Rows.{rows_first, rest_more, rows_more, rows_last}
use Rattle.oidc_rsa.proofs.montgomery.add_row.Goals as goal

pub loop-i-init : goal.loop-i-init
loop-i-init c =
    let n = c.args.n.now in let inverse = c.args.inverse in
    let lowest = c.carrying_mul_add-lowest.result in let cleared = c.carrying_mul_add-cleared.result in
    let none = lowest_is_zero (2 ^ 64) (get_or n 0 0) inverse lowest.0 cleared.0 cleared.1 c.requires.inverse (omega arith) c.carrying_mul_add-cleared.ensures in
    record {
      rest = refl;
      rows = rows_first c.args.sum.now c.args.b.now n c.args.digit (lowest.0 * inverse % 2 ^ 64) lowest.0 cleared.0 lowest.1 cleared.1
          c.requires.not_empty (omega arith) (omega arith) c.carrying_mul_add-lowest.ensures c.carrying_mul_add-cleared.ensures none;
    }

pub loop-i-preserved : goal.loop-i-preserved
loop-i-preserved c =
    let i = c.loop-i.i in let s = c.args.sum.now in let sum = c.loop-i.sum in
    let multiple = c.carrying_mul_add-lowest.result.0 * c.args.inverse % 2 ^ 64 in
    let added = c.carrying_mul_add-added.result in let limb = c.carrying_mul_add-limb.result in
    record {
      rest = rest_more s sum i limb.0 (omega arith) c.loop-i.invariant.rest;
      rows = rows_more s sum c.args.b.now c.args.n.now i c.args.digit multiple added.0 limb.0 c.loop-i.product_carry c.loop-i.multiple_carry added.1 limb.1
          (omega arith) (omega arith) (omega arith) (omega arith) (omega arith) c.loop-i.invariant.rest c.carrying_mul_add-added.ensures c.carrying_mul_add-limb.ensures c.loop-i.invariant.rows;
    }

pub returns : goal.returns
returns c =
    let lowest = c.carrying_mul_add-lowest.result.0 in
    let multiple = lowest * c.args.inverse % 2 ^ 64 in (
      multiple,
      mod_below (lowest * c.args.inverse) (2 ^ 64) (omega arith),
      rows_last c.args.sum.now c.loop-i.sum c.args.b.now c.args.n.now c.loop-i.i c.args.digit multiple c.loop-i.product_carry c.loop-i.multiple_carry
          c.carrying_add-last.result.0 c.args.top c.carrying_add-last.result.1
          (omega arith) (omega arith) (omega arith) (omega arith) (omega arith) c.carrying_add-last.ensures c.loop-i.invariant.rows,
    )
