use Rattle.std.proofs.Common.{subst, sym}
use Rattle.oidc_login.specs.Logins.{HasVerifiers}
use Rattle.oidc_login.proofs.Entries.{nothing_kept, verifiers_empty}
use Rattle.oidc_login.proofs.store.Store.new.Goals as goal

pub invariant_of-result : goal.invariant_of-result
invariant_of-result c = subst HasVerifiers (sym (nothing_kept c.new.result c.new.ensures.empty)) verifiers_empty

pub returns-clause-verifiers : goal.returns-clause-verifiers
returns-clause-verifiers c = subst HasVerifiers (sym (nothing_kept c.new.result c.new.ensures.empty)) verifiers_empty
