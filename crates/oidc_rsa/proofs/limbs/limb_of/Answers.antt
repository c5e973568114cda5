use Rattle.std.proofs.Common.{arith}
use Rattle.oidc_rsa.proofs.Digits.{limb-lt}
use Rattle.oidc_rsa.proofs.limbs.limb_of.Goals as goal

pub overflow_mul-limb : goal.overflow_mul-limb
overflow_mul-limb c =
    record { fits = omega (arith, limb-lt c.args.octets.now c.loop-octet.octet-index c.loop-octet.limb 0 c.type_inv.octets (omega arith) (omega arith) c.loop-octet.invariant) }

pub overflow_add-limb : goal.overflow_add-limb
overflow_add-limb c =
    let h = c.from.ensures in
    let octet = c.type_inv.octets c.loop-octet.octet-index in
    record { fits = limb-lt c.args.octets.now c.loop-octet.octet-index c.loop-octet.limb c.from.result c.type_inv.octets (omega arith) (omega arith) c.loop-octet.invariant }
