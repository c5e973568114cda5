use Rattle.std.proofs.Common.{rules, sym, ap, ◌∙◌}
use Rattle.std.specs.Option.{option_copied_mut}
use Rattle.oidc_session.proofs.Linked.{written, same_ids, one_more_id}
use Rattle.std.specs.String.{string_bytes}
use Rattle.oidc_session.proofs.index.Index.link.Goals as goal

pub returns-in_err-insert-in-Some-clause-others : goal.returns-in_err-insert-in-Some-clause-others
returns-in_err-insert-in-Some-clause-others c = λ n i h.
    written c.args.name.now c.name.new.self.ids (c.get_mut.follows.lender c.insert.new.self) c.in-Some.ids.now c.insert.new.self (sym c.get_mut.ensures.value ∙ ap (λ r. option_copied_mut r) c.in-Some.is)
    ((c.get_mut.follows.holds c.insert.new.self).3 (search rules)) n i
    (λ e. same_ids c.in-Some.ids.now c.insert.new.self c.in_err-insert-in-Some.ensures.err i) (c.in_ok-name.ensures.others n i h)

pub returns-clause-others : goal.returns-clause-others
returns-clause-others c = λ n i h.
    written c.args.name.now c.name.new.self.ids (c.get_mut.follows.lender c.insert.new.self) c.in-Some.ids.now c.insert.new.self (sym c.get_mut.ensures.value ∙ ap (λ r. option_copied_mut r) c.in-Some.is)
    ((c.get_mut.follows.holds c.insert.new.self).3 (search rules)) n i
    (λ e. one_more_id (string_bytes c.in_ok-own.own) c.in-Some.ids.now c.insert.new.self c.in_ok-insert-in-Some.ensures.updates i) (c.in_ok-name.ensures.others n i h)
