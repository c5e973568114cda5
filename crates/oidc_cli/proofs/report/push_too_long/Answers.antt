use Rattle.oidc_cli.specs.Report.{verdict_line}
use Rattle.oidc_cli.proofs.report.push_too_long.Goals as goal

pub returns : goal.returns
unfolding verdict_line
returns c = rw c.place_word.ensures at c.push_line.ensures
