use Rattle.std.proofs.Common.{sym, ap, subst, ◌∙◌}
use Rattle.std.specs.Prelude.{IsSome}
use Rattle.std.specs.FinMap as finite
use Rattle.oidc_session.proofs.Stores.{taken_out, left_there, not_there}
use Rattle.oidc_session.proofs.store.take_one.Goals as goal

pub returns-then-not-is_named_at-clause-left : goal.returns-then-not-is_named_at-clause-left
returns-then-not-is_named_at-clause-left c = λ q.
    left_there c.args.logout.now c.args.sessions.now c.args.id.now q (sym c.is_named_at.ensures ∙ c.if-not-is_named_at.true)

pub returns-in-Some-clause-left : goal.returns-in-Some-clause-left
returns-in-Some-clause-left c = λ q.
    ap (λ m. finite.get m q) c.remove.ensures.rest
    ∙ taken_out c.args.logout.now c.args.sessions.now c.args.id.now q (sym c.is_named_at.ensures ∙ c.if-not-is_named_at.false)

pub returns-in-Some-clause-others : goal.returns-in-Some-clause-others
returns-in-Some-clause-others c = λ n i there h.
    c.unlink_name.ensures.others n i (not_there c.args.sessions.now c.args.id.now i (subst (λ m. IsSome (finite.get m i)) c.remove.ensures.rest there)) h

pub returns-in-None-clause-left : goal.returns-in-None-clause-left
returns-in-None-clause-left c = λ q.
    ap (λ m. finite.get m q) c.remove.ensures.rest
    ∙ taken_out c.args.logout.now c.args.sessions.now c.args.id.now q (sym c.is_named_at.ensures ∙ c.if-not-is_named_at.false)
