use Rattle.std.proofs.Common.{sym, subst}
use Rattle.oidc_session.specs.Stored.{IsIndexed}
use Rattle.oidc_session.proofs.Stores.{indexed_swept}
use Rattle.oidc_session.proofs.store.Store.sweep.Goals as goal

pub invariant_of-self : goal.invariant_of-self
invariant_of-self c =
    subst (λ m. IsIndexed m c.unlink_ended.new.by_subject.ids c.unlink_ended.new.by_provider_session.ids) (sym c.remove_ended.ensures.rest)
    (indexed_swept c.self.inside.sessions c.args.now.nanosecond c.self.inside.by_subject.ids c.self.inside.by_provider_session.ids
    c.unlink_ended.new.by_subject.ids c.unlink_ended.new.by_provider_session.ids c.self.invariant c.unlink_ended.ensures.others c.unlink_ended.ensures.other_sessions)
