use Rattle.oidc_session.proofs.Runs.{runs_as_alone}
use Rattle.oidc_session.proofs.laws.session_isolation.Goals as goal

pub returns : goal.returns
returns g c = runs_as_alone _
