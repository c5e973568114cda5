use Rattle.std.proofs.Common.{◌≡◌, ◌^◌, ◌%◌}
use Rattle.oidc_rsa.specs.Limbs.{value}
use Rattle.oidc_rsa.proofs.montgomery.r_squared.Given as goal

abbrev pub invariant-loop-i : goal.invariant-loop-i
invariant-loop-i l = value l.out ≡ 2 ^ l._i % value l.n
