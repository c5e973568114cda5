use Rattle.oidc_cli.specs.Report.{verdict_line}
use Rattle.oidc_cli.proofs.report.push_refused_claims.Goals as goal

pub returns : goal.returns
unfolding verdict_line
returns c = rw c.claims_word.ensures at c.push_line.ensures
