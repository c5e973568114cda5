use Rattle.oidc_login.proofs.logins.Logins.pending.Goals as goal

pub returns-clause-endpoints : goal.returns-clause-endpoints
returns-clause-endpoints g c = rw (← c.self.view_is) c.self.invariant.1
