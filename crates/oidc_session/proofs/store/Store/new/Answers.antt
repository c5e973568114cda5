use Rattle.oidc_session.proofs.Stores.{indexed_nothing}
use Rattle.oidc_session.proofs.store.Store.new.Goals as goal

pub invariant_of-result : goal.invariant_of-result
invariant_of-result c = indexed_nothing c.new.result c.new-2.result.ids c.new-3.result.ids c.new.ensures.empty
