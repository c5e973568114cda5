use Rattle.std.proofs.Common.{◌≡◌, Some, false, sym, subst, ◌∙◌}
use Rattle.std.specs.Prelude.{is_some}
use Rattle.std.specs.HashMap.{get_by_text}
use Rattle.std.specs.String.{string_bytes}
use Rattle.oidc_session.proofs.Linked.{keeps_new}
use Rattle.oidc_session.proofs.index.Index.name.Goals as goal

pub returns-clause-others : goal.returns-clause-others
returns-clause-others c =
    let absent : is_some (get_by_text c.args.self.now.ids (string_bytes c.in_ok-from_str.field-0)) ≡ false =
    subst (λ z. is_some (get_by_text c.args.self.now.ids z) ≡ false) (sym c.in_ok-from_str.ensures.ok) (sym c.contains_key.ensures ∙ c.if-contains_key.false) in
    keeps_new (string_bytes c.in_ok-from_str.field-0) c.args.self.now.ids c.insert.new.self (Some c.new.result) c.in_ok-insert.ensures.updates absent
