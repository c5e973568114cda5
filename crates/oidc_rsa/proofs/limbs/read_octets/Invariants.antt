use Rattle.std.proofs.Common.{◌≡◌, ◌*◌, ◌-◌, length, take, drop}
use Rattle.oidc_rsa.specs.Octets.{os2ip}
use Rattle.oidc_rsa.specs.Limbs.{value}
use Rattle.oidc_rsa.proofs.limbs.read_octets.Given as goal

-- the limbs below i hold the octets from the end on
abbrev pub invariant-loop-i : goal.invariant-loop-i
invariant-loop-i l =
    record {
      place : l.end ≡ length l.octets - 8 * l.i;
      read : value (take l.i l.limbs) ≡ os2ip (drop l.end l.octets);
    }
