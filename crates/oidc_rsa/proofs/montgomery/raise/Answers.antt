use Rattle.std.proofs.Common.{◌≡◌, ℕ, ◌-◌, ◌*◌, ◌/◌, ◌%◌, ◌^◌, length, subst, ap, sym, ◌∙◌, arith}
use Rattle.std.proofs.Math.Nat.{div-one}
use Rattle.std.proofs.lemmas.Nat.{and_mask}
use Rattle.oidc_rsa.specs.Limbs.{value, StandsFor}
use Rattle.oidc_rsa.proofs.Powers.{stands-mul, highest_bit, bit_set, bit_clear}
use Rattle.oidc_rsa.proofs.montgomery.raise.Goals as goal

pub loop-i-init : goal.loop-i-init
loop-i-init c =
    let n = value c.args.n.now in let R = 2 ^ (64 * length c.args.n.now) in let e = c.args.exponent in let top = c.ilog2-i.result in
    record {
      reduced = omega arith;
      power = λ x h. subst (StandsFor n R (value c.args.acc.now)) (sym (highest_bit x e top c.ilog2-i.ensures.power_le c.ilog2-i.ensures.next_power_gt))
          (ap (λ v. v % n) c.requires.acc ∙ h);
    }

pub loop-i-preserved-then-exponent-i-eq1 : goal.loop-i-preserved-then-exponent-i-eq1
loop-i-preserved-then-exponent-i-eq1 c =
    let n = value c.args.n.now in let k = 64 * length c.args.n.now in let e = c.args.exponent in let i = c.loop-i.i in
    let p = λ (x : ℕ). x ^ (e / 2 ^ i) in let bit = and_mask (e / 2 ^ (i - 1)) 1 in
    let square = value c.square_in_place.new.acc in let product = value c.multiply_in_place.new.acc in
    record {
      reduced = c.multiply_in_place.ensures.reduced;
      power = λ x h.
          let so_far = c.loop-i.invariant.power x h in
          let squared = stands-mul n k (value c.loop-i.acc) (value c.loop-i.acc) square (p x) (p x) c.requires.odd c.square_in_place.ensures.product so_far so_far in
          let all = stands-mul n k square (value c.args.base.now) product (p x * p x) x c.requires.odd c.multiply_in_place.ensures.product squared h in
          subst (StandsFor n (2 ^ k) product) (bit_set x e i (omega arith) (sym bit ∙ c.if-exponent-i-eq1.true)) all;
    }

pub loop-i-preserved : goal.loop-i-preserved
loop-i-preserved c =
    let n = value c.args.n.now in let k = 64 * length c.args.n.now in let e = c.args.exponent in let i = c.loop-i.i in
    let p = λ (x : ℕ). x ^ (e / 2 ^ i) in let bit = and_mask (e / 2 ^ (i - 1)) 1 in
    let square = value c.square_in_place.new.acc in
    record {
      reduced = c.square_in_place.ensures.reduced;
      power = λ x h.
          let so_far = c.loop-i.invariant.power x h in
          let squared = stands-mul n k (value c.loop-i.acc) (value c.loop-i.acc) square (p x) (p x) c.requires.odd c.square_in_place.ensures.product so_far so_far in
          subst (StandsFor n (2 ^ k) square) (bit_clear x e i (omega arith) (λ h1. c.if-exponent-i-eq1.false (bit ∙ h1))) squared;
    }

pub returns-clause-power : goal.returns-clause-power
returns-clause-power c =
    let n = value c.args.n.now in let R = 2 ^ (64 * length c.args.n.now) in let e = c.args.exponent in
    let end : c.loop-i.i ≡ 0 = omega arith in
    λ x h. subst (λ (k : ℕ). StandsFor n R (value c.loop-i.acc) (x ^ k)) (ap (λ (i : ℕ). e / 2 ^ i) end ∙ div-one e) (c.loop-i.invariant.power x h)
