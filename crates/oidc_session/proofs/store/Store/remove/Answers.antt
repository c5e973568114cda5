use Rattle.std.proofs.Common.{sym, subst}
use Rattle.oidc_session.specs.Stored.{IsIndexed}
use Rattle.oidc_session.proofs.Stores.{indexed_remove}
use Rattle.oidc_session.proofs.store.Store.remove.Goals as goal

pub unlink-requires : goal.unlink-requires
unlink-requires c =
    subst (λ m. IsIndexed m c.self.inside.by_subject.ids c.self.inside.by_provider_session.ids) (sym c.remove.ensures.rest)
    (indexed_remove c.self.inside.sessions c.args.id.now c.self.inside.by_subject.ids c.self.inside.by_provider_session.ids c.self.invariant)

pub invariant_of-self-in-None : goal.invariant_of-self-in-None
invariant_of-self-in-None c =
    subst (λ m. IsIndexed m c.self.inside.by_subject.ids c.self.inside.by_provider_session.ids) (sym c.remove.ensures.rest)
    (indexed_remove c.self.inside.sessions c.args.id.now c.self.inside.by_subject.ids c.self.inside.by_provider_session.ids c.self.invariant)
