use Rattle.oidc_login.proofs.Endpoints.{none_pending}
use Rattle.oidc_login.proofs.logins.Logins.new.Goals as goal

pub invariant_of-result : goal.invariant_of-result
invariant_of-result g c = (c.new.ensures.verifiers, rw c.new.ensures.empty (none_pending _))
