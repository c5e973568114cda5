use Rattle.std.proofs.Common.{◌≡◌, take, map}
use Rattle.oidc_claims.specs.Additional.{out_of}
use Rattle.oidc_claims.proofs.all_other_claims.outs_of.Given as goal

abbrev pub invariant-loop-member : goal.invariant-loop-member
invariant-loop-member l = l.outs.items ≡ map out_of (take l.member-index l.members)
