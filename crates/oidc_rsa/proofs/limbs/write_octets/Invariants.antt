use Rattle.std.proofs.Common.{◌≡◌, ◌-◌, drop}
use Rattle.std.specs.Int.{bytes_high_first}
use Rattle.oidc_rsa.specs.Limbs.{value}
use Rattle.oidc_rsa.proofs.limbs.write_octets.Given as goal

-- the last i octets are the number's lowest
abbrev pub invariant-loop-i : goal.invariant-loop-i
invariant-loop-i l = drop (l.len - l.i) l.octets ≡ bytes_high_first l.i (value l.limbs)
