use Rattle.std.proofs.Common.{◌≡◌, ℕ, ◌*◌, ◌^◌, ◌%◌, length, ap, sym, ◌∙◌, arith}
use Rattle.std.proofs.Math.Nat.{mod-eq_of_lt}
use Rattle.oidc_rsa.specs.Limbs.{value}
use Rattle.oidc_rsa.proofs.Powers.{doubled_again}
use Rattle.oidc_rsa.proofs.montgomery.r_squared.Goals as goal

pub loop-i-init : goal.loop-i-init
loop-i-init c = c.set_one.ensures ∙ sym (mod-eq_of_lt {n = 1} {m = value c.args.n.now} c.requires.above_one)

pub loop-i-preserved : goal.loop-i-preserved
loop-i-preserved c =
    c.double_modulo.ensures ∙ doubled_again (value c.args.n.now) c.loop-i._i (value c.loop-i.out) c.loop-i.invariant

pub returns : goal.returns
returns c =
    let n = c.args.n.now in
    let bits : c.loop-i._i ≡ 64 * (2 * length n) = omega arith in
    c.loop-i.invariant ∙ ap (λ (k : ℕ). 2 ^ k % value n) bits
