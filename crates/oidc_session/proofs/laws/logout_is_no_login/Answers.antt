use Rattle.oidc_session.proofs.Apart.{never_both}
use Rattle.oidc_session.proofs.laws.logout_is_no_login.Goals as goal

pub returns : goal.returns
returns g c = never_both _ _
