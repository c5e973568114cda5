use Rattle.std.proofs.Common.{sym, ◌∙◌, arith}
use Rattle.std.proofs.lemmas.Bool.Decides.{nat_tests}
use Rattle.oidc_cli.proofs.Cuts.{lines_at, lines_last}
use Rattle.oidc_cli.proofs.script.first_line.Goals as goal

pub returns-in-Some-clause-first : goal.returns-in-Some-clause-first
returns-in-Some-clause-first c = lines_at _ _ (sym c.line_feed.ensures ∙ c.in-Some.is)

pub returns-in-None-clause-first : goal.returns-in-None-clause-first
returns-in-None-clause-first c = lines_last _ (let some = c.if-is_empty.ensures in grind (arith, nat_tests)) (sym c.line_feed.ensures ∙ c.in-None.is)
