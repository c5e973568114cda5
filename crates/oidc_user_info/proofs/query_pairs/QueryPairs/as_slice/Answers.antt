use Rattle.std.proofs.Common.{All, subst}
use Rattle.oidc_pairs.specs.Pairs.{IsTextPair}
use Rattle.oidc_user_info.proofs.query_pairs.QueryPairs.as_slice.Goals as goal

pub returns-clause-texts : goal.returns-clause-texts
returns-clause-texts c = subst (All IsTextPair) c.self.view_is c.self.invariant
