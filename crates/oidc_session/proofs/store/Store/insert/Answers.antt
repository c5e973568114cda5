use Rattle.std.proofs.Common.{sym, subst, ◌∙◌}
use Rattle.std.specs.String.{string_bytes}
use Rattle.oidc_session.specs.Stored.{IsIndexed}
use Rattle.oidc_session.proofs.Stores.{indexed_more, indexed_inserted}
use Rattle.oidc_session.proofs.store.Store.insert.Goals as goal

pub invariant_of-self : goal.invariant_of-self
invariant_of-self c =
    indexed_more c.self.inside.sessions c.self.inside.by_subject.ids c.self.inside.by_provider_session.ids c.link.new.by_subject.ids c.link.new.by_provider_session.ids
    c.self.invariant c.link.ensures.others c.link.ensures.other_sessions

pub invariant_of-self-in_err-gone : goal.invariant_of-self-in_err-gone
invariant_of-self-in_err-gone c =
    subst (λ m. IsIndexed m c.link.new.by_subject.ids c.link.new.by_provider_session.ids) (sym c.in_err-gone.ensures.err)
    (indexed_more c.self.inside.sessions c.self.inside.by_subject.ids c.self.inside.by_provider_session.ids c.link.new.by_subject.ids c.link.new.by_provider_session.ids
    c.self.invariant c.link.ensures.others c.link.ensures.other_sessions)

pub unlink-requires : goal.unlink-requires
unlink-requires c =
    indexed_inserted c.self.inside.sessions c.insert.new.self c.as_str-2.result.now (string_bytes c.in_ok-own.own) c.args.session
    c.self.inside.by_subject.ids c.self.inside.by_provider_session.ids c.link.new.by_subject.ids c.link.new.by_provider_session.ids
    c.self.invariant c.in_ok-link.ensures.others c.in_ok-link.ensures.other_sessions c.in_ok-gone.ensures.ok
    (c.in_ok-own.ensures.ok ∙ c.as_str.ensures.value ∙ sym c.as_str-2.ensures.value) c.in_ok-link.ensures.subject c.in_ok-link.ensures.provider_session

pub invariant_of-self-in_default : goal.invariant_of-self-in_default
invariant_of-self-in_default c =
    indexed_inserted c.self.inside.sessions c.insert.new.self c.as_str-2.result.now (string_bytes c.in_ok-own.own) c.args.session
    c.self.inside.by_subject.ids c.self.inside.by_provider_session.ids c.link.new.by_subject.ids c.link.new.by_provider_session.ids
    c.self.invariant c.in_ok-link.ensures.others c.in_ok-link.ensures.other_sessions c.in_ok-gone.ensures.ok
    (c.in_ok-own.ensures.ok ∙ c.as_str.ensures.value ∙ sym c.as_str-2.ensures.value) c.in_ok-link.ensures.subject c.in_ok-link.ensures.provider_session
