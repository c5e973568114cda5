use Rattle.oidc_user_info.proofs.QueryLists.{kept_texts, more_texts}
use Rattle.oidc_user_info.proofs.query_pairs.QueryPairs.push.Goals as goal

pub invariant_of-self : goal.invariant_of-self
invariant_of-self c = kept_texts c.self.inside.pairs.items c.push.new.self.items c.in_err-push.ensures.items c.self.invariant

pub invariant_of-self-2 : goal.invariant_of-self-2
invariant_of-self-2 c =
    more_texts c.self.inside.pairs.items c.push.new.self.items (c.args.name, c.args.value) c.in_ok-push.ensures.items c.self.invariant (c.utf8.name, c.utf8.value)
