use Rattle.std.proofs.Common.{subst, sym}
use Rattle.std.specs.String.{string_bytes}
use Rattle.oidc_login.specs.Logins.{HasVerifiers}
use Rattle.oidc_login.proofs.Entries.{kept_insert, verifiers_insert}
use Rattle.oidc_login.proofs.store.Store.insert.Goals as goal

pub invariant_of-self-2 : goal.invariant_of-self-2
invariant_of-self-2 c = subst HasVerifiers (sym (kept_insert (string_bytes c.args.state) c.self.inside.logins c.insert.new.self _ c.in_ok-insert.ensures.updates)) (verifiers_insert _ _ _ c.self.invariant c.requires.verifier)

pub returns-clause-verifiers : goal.returns-clause-verifiers
returns-clause-verifiers c = subst HasVerifiers (sym (kept_insert (string_bytes c.args.state) c.self.inside.logins c.insert.new.self _ c.in_ok-insert.ensures.updates)) (verifiers_insert _ _ _ c.self.invariant c.requires.verifier)
