use Rattle.std.proofs.Common.{subst, sym, ap, Some, ◌∙◌}
use Rattle.oidc_login.specs.Logins.{HasVerifiers}
use Rattle.oidc_login.proofs.Entries.{get_kept, kept_remove, verifiers_remove}
use Rattle.oidc_login.proofs.store.Store.take.Goals as goal

pub invariant_of-self : goal.invariant_of-self
invariant_of-self c = subst HasVerifiers (sym (kept_remove c.args.state.now c.self.inside.logins c.remove.new.self c.remove.ensures.updates)) (verifiers_remove _ _ c.self.invariant)

pub invariant_of-self-2 : goal.invariant_of-self-2
invariant_of-self-2 c = subst HasVerifiers (sym (kept_remove c.args.state.now c.self.inside.logins c.remove.new.self c.remove.ensures.updates)) (verifiers_remove _ _ c.self.invariant)

pub returns-clause-verifier : goal.returns-clause-verifier
returns-clause-verifier c = c.self.invariant c.args.state.now c.into_login.result (get_kept c.self.inside.logins c.args.state.now ∙ sym c.remove.ensures.value ∙ c.in-Some.is ∙ ap Some (sym c.into_login.ensures.login))

pub returns-clause-verifiers : goal.returns-clause-verifiers
returns-clause-verifiers c = subst HasVerifiers (sym (kept_remove c.args.state.now c.self.inside.logins c.remove.new.self c.remove.ensures.updates)) (verifiers_remove _ _ c.self.invariant)
