use Rattle.oidc_session.proofs.Runs.{answers_until_end}
use Rattle.oidc_session.proofs.laws.answers_until_end.Goals as goal

pub returns : goal.returns
returns g c = answers_until_end _
