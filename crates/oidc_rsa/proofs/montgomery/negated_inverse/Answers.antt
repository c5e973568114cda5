use Rattle.std.proofs.Common.{◌≡◌, ◌+◌, ◌*◌, ◌^◌, ◌%◌, ap, ◌∙◌, arith}
use Rattle.std.proofs.Math.Nat.{pow-suc, pow-zero}
use Rattle.oidc_rsa.proofs.Residues.{newton_step, square_power, even_power}
use Rattle.oidc_rsa.proofs.montgomery.negated_inverse.Goals as goal

pub loop-step-init : goal.loop-step-init
loop-step-init c =
    let n = c.args.n in
    let once : n * 1 + 1 ≡ (n + 1) ^ 1 = omega (arith, pow-suc (n + 1) 0 ∙ ap (λ k. k * (n + 1)) (pow-zero (n + 1))) in
    ap (λ k. k % 2 ^ 64) once

pub loop-step-preserved : goal.loop-step-preserved
loop-step-preserved c =
    let n = c.args.n in let i = c.loop-step._step in
    newton_step (2 ^ 64) n c.loop-step.inverse ((n + 1) ^ (2 ^ i)) c.loop-step.invariant ∙ ap (λ k. k % 2 ^ 64) (square_power (n + 1) i)

pub returns : goal.returns
returns c =
    let end : c.loop-step._step ≡ 6 = omega arith in
    rw end at c.loop-step.invariant ∙ even_power c.args.n c.requires
