use Rattle.std.proofs.Common.{sym}
use Rattle.oidc_login.proofs.Changed.{has_info, same_client, refused_is_other, differs}
use Rattle.oidc_login.proofs.logins.Logins.with_client.Goals as goal

pub over-requires : goal.over-requires
over-requires g c = rw (← c.self.view_is) (has_info _ _ (sym c.in-Ok.ensures))

pub returns-in-Ok-clause-same : goal.returns-in-Ok-clause-same
returns-in-Ok-clause-same g c = rw (← c.self.view_is) (same_client _ _ (sym c.in-Ok.ensures))

pub returns-in-Err-clause-taken : goal.returns-in-Err-clause-taken
returns-in-Err-clause-taken g c = rw (← c.self.view_is) (λ s. refused_is_other _ _ c.in-Err.error (sym c.in-Err.ensures) s _)

pub returns-in-Err-clause-differs : goal.returns-in-Err-clause-differs
returns-in-Err-clause-differs g c = rw (← c.self.view_is) (differs _ _ c.in-Err.error (sym c.in-Err.ensures))
