use Rattle.std.proofs.Common.{◌≡◌, take}
use Rattle.oidc_rsa.specs.Octets.{os2ip}
use Rattle.oidc_rsa.proofs.limbs.limb_of.Given as goal

abbrev pub invariant-loop-octet : goal.invariant-loop-octet
invariant-loop-octet l = l.limb ≡ os2ip (take l.octet-index l.octets)
