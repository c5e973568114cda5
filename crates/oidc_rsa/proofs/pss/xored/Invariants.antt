use Rattle.std.proofs.Common.{◌≡◌, length, take}
use Rattle.oidc_rsa.specs.Pss.{xored}
use Rattle.oidc_rsa.proofs.pss.xored.Given as goal

abbrev pub invariant-loop-i : goal.invariant-loop-i
invariant-loop-i l =
    record {
      items : l.out.items ≡ xored (take l.i l.octets) (take l.i l.mask);
      len : length l.out.items ≡ l.i;
    }
