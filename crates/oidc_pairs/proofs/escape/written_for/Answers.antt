use Rattle.std.proofs.Common.{◌<◌, arith}
use Rattle.oidc_pairs.proofs.Written.{escaped_entry, other_entry}
use Rattle.oidc_pairs.proofs.escape.written_for.Goals as goal

pub returns-then-written-eq37 : goal.returns-then-written-eq37
returns-then-written-eq37 c = let low : c.args.byte < 256 = omega arith in escaped_entry c.args.byte low c.if-written-eq37.true

pub returns-else-written-eq37 : goal.returns-else-written-eq37
returns-else-written-eq37 c = let low : c.args.byte < 256 = omega arith in other_entry c.args.byte low c.if-written-eq37.false
