use Rattle.std.proofs.Common.{◌≡◌, ◌+◌, ◌-◌, drop, length, refl, ap, sym, ◌∙◌, arith, add-one}
use Rattle.std.proofs.lemmas.List.{drop_all}
use Rattle.std.specs.Int.{bytes_high_first}
use Rattle.oidc_rsa.specs.Limbs.{value}
use Rattle.oidc_rsa.specs.Octets.{i2osp}
use Rattle.oidc_rsa.proofs.Digits.{write_step}
use Rattle.oidc_rsa.proofs.limbs.write_octets.Goals as goal

pub loop-i-init : goal.loop-i-init
loop-i-init c = drop_all (length c.args.octets.now - 0) c.args.octets.now (omega arith)

pub loop-i-preserved : goal.loop-i-preserved
loop-i-preserved c =
    let i = c.loop-i.i in let len = length c.args.octets.now in
    let here : len - (i + 1) ≡ len - 1 - i = omega arith in
    let above : len - i ≡ len - 1 - i + 1 = omega arith in
    rw (here, add-one) (write_step c.args.limbs.now c.loop-i.octets i (len - 1 - i) _ c.type_inv.limbs (omega arith) (omega arith) refl (rw above at c.loop-i.invariant))

pub returns : goal.returns
unfolding i2osp
returns c =
    let len = length c.args.octets.now in let i = c.loop-i.i in
    let whole : len - i ≡ 0 = omega arith in
    let all : i ≡ len = omega arith in
    sym (ap (λ k. drop k c.loop-i.octets) whole) ∙ (c.loop-i.invariant ∙ ap (λ k. bytes_high_first k (value c.args.limbs.now)) all)
