use Rattle.std.proofs.Common.{◌≡◌, ◌^◌, ◌≤◌, take}
use Rattle.oidc_rsa.specs.Octets.{os2ip}
use Rattle.oidc_rsa.proofs.public_key.exponent_of.Given as goal

abbrev pub invariant-loop-octet : goal.invariant-loop-octet
invariant-loop-octet l =
    record {
      number : l.exponent ≡ os2ip (take l.octet-index l.octets);
      within : l.exponent ≤ 2 ^ 32;
    }
