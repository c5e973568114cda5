use Rattle.std.proofs.Common.{sym}
use Rattle.oidc_cli.proofs.Numbers.{parsed_seconds, plus_is_no_moment}
use Rattle.oidc_cli.proofs.script.values.seconds_of.Goals as goal

pub returns-then-begins_with_plus : goal.returns-then-begins_with_plus
returns-then-begins_with_plus c = plus_is_no_moment _ (sym c.if-begins_with_plus.ensures)

pub returns : goal.returns
returns c = rw c.ok.ensures.value (parsed_seconds _ _ (sym c.if-begins_with_plus.ensures) c.parse.ensures.value.0)
