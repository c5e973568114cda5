use Rattle.std.proofs.Common.{rules}
use Rattle.std.proofs.lemmas.List.{take_more}
use Rattle.oidc_claims.proofs.all_other_claims.copies_of.Goals as goal

pub loop-member-preserved : goal.loop-member-preserved
loop-member-preserved c = (search (rules, take_more), c.in_ok-push_copy.ensures.texts c.loop-member.invariant.1)
