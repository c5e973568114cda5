use Rattle.std.proofs.Common.{arith}
use Rattle.oidc_rsa.proofs.Digits.{read_step}
use Rattle.oidc_rsa.proofs.Values.{value-take-set}
use Rattle.oidc_rsa.proofs.limbs.read_octets.Goals as goal

pub loop-i-preserved : goal.loop-i-preserved
loop-i-preserved c =
    let i = c.loop-i.i in let start = c.saturating_sub-start.result in let limb = c.limb_of.result in
    let read = value-take-set c.loop-i.limbs i limb (omega arith) in
    let more = read_step c.args.octets.now i c.loop-i.end start limb c.loop-i.invariant.place (omega arith) c.limb_of.ensures in
    record {
      place = omega arith;
      read = omega (arith, read, more, c.loop-i.invariant.read);
    }
