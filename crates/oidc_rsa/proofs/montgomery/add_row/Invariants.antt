use Rattle.std.proofs.Common.{◌≡◌, ◌+◌, ◌-◌, ◌*◌, ◌^◌, take, drop}
use Rattle.oidc_rsa.specs.Limbs.{value}
use Rattle.oidc_rsa.proofs.montgomery.add_row.Given as goal

-- both products are added to the first i limbs, which stand one place lower; the rest is as it was
abbrev pub invariant-loop-i : goal.invariant-loop-i
invariant-loop-i l =
    record {
      rest : drop l.i l.sum ≡ drop l.i l.fn.sum;
      rows : 2 ^ 64 * value (take (l.i - 1) l.sum) + 2 ^ (64 * l.i) * (l.product_carry + l.multiple_carry) ≡ value (take l.i l.fn.sum) + value (take l.i l.b) * l.digit + value (take l.i l.n) * l.multiple;
    }
