use Rattle.std.proofs.Common.{Some, None, sym, ap, ◌∙◌}
use Rattle.std.specs.Option.{option_copied}
use Rattle.std.specs.FinMap as finite
use Rattle.oidc_session.specs.Stored.{left_at}
use Rattle.oidc_session.proofs.Linked.{under_name}
use Rattle.oidc_session.proofs.store.take_all.Goals as goal

pub returns-in-Some-clause-left : goal.returns-in-Some-clause-left
returns-in-Some-clause-left c = λ q.
    c.take_named.ensures.left q
    ∙ ap (λ b. left_at c.args.logout.now b (finite.get c.args.sessions.now q))
    (under_name c.args.name.now c.args.own.now.ids (Some c.in-Some.ids.now) (sym (ap (λ r. option_copied r) c.in-Some.is) ∙ c.under.ensures.ids) q)

pub returns-in-None-clause-left : goal.returns-in-None-clause-left
returns-in-None-clause-left c = λ q.
    ap (λ b. left_at c.args.logout.now b (finite.get c.args.sessions.now q))
    (under_name c.args.name.now c.args.own.now.ids None (sym (ap (λ r. option_copied r) c.in-None.is) ∙ c.under.ensures.ids) q)
