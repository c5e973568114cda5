use Rattle.std.proofs.Common.{rules, sym, ap, ◌∙◌}
use Rattle.std.specs.Option.{option_copied_mut}
use Rattle.oidc_session.proofs.Linked.{written, one_less_id}
use Rattle.oidc_session.proofs.index.Index.take.Goals as goal

pub returns : goal.returns
returns c = record {
  others = λ n i apart h.
      written c.args.name.now c.args.self.now.ids (c.get_mut.follows.lender c.remove.new.self) c.in-Some.ids.now c.remove.new.self (sym c.get_mut.ensures.value ∙ ap (λ r. option_copied_mut r) c.in-Some.is)
      ((c.get_mut.follows.holds c.remove.new.self).3 (search rules)) n i
      (λ e. one_less_id c.args.id.now c.in-Some.ids.now c.remove.new.self c.remove.ensures.updates i (apart e)) h;
}
