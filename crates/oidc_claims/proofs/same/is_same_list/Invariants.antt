use Rattle.std.proofs.Common.{◌≡◌, drop}
use Rattle.std.specs.Slice.Iter.{iter_rest}
use Rattle.oidc_claims.specs.Same.{same_list}
use Rattle.oidc_claims.proofs.same.is_same_list.Given as goal

abbrev pub invariant-loop-member : goal.invariant-loop-member
invariant-loop-member l = same_list l.a l.b ≡ same_list (drop l.member-index l.a) (iter_rest l.others)
