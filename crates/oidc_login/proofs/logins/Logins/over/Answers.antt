use Rattle.oidc_login.proofs.Changed.{endpoints_kept}
use Rattle.oidc_login.proofs.logins.Logins.over.Goals as goal

pub invariant_of-result : goal.invariant_of-result
invariant_of-result g c = (c.self.invariant.0, endpoints_kept _ _ _ (rw (← c.self.view_is) at c.requires) c.self.invariant.1)
