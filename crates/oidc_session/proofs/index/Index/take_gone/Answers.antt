use Rattle.std.proofs.Common.{rules, sym, ap, ◌∙◌}
use Rattle.std.specs.Option.{option_copied_mut}
use Rattle.std.specs.Prelude.{is_some}
use Rattle.std.specs.FinMap as finite
use Rattle.std.proofs.lemmas.Fn.{filter_same}
use Rattle.oidc_session.proofs.Linked.{written, filtered_ids}
use Rattle.oidc_session.proofs.index.Index.take_gone.Goals as goal

pub returns : goal.returns
returns c = record {
  others = λ n i there h.
      written c.args.name.now c.args.self.now.ids (c.get_mut.follows.lender c.retain.new.self) c.in-Some.ids.now c.retain.new.self (sym c.get_mut.ensures.value ∙ ap (λ r. option_copied_mut r) c.in-Some.is)
      ((c.get_mut.follows.holds c.retain.new.self).3 (search rules)) n i
      (λ e. filtered_ids (λ id. is_some (finite.get c.args.sessions.now id)) c.in-Some.ids.now c.retain.new.self
      (filter_same _ _ _ (λ x b f' k. search rules) _ _ c.retain.ensures.filtered) i there) h;
}
