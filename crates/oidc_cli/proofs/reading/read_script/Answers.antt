use Rattle.std.proofs.Common.{◌++◌, take, arith}
use Rattle.std.proofs.lemmas.Grind.{common_steps}
use Rattle.oidc_cli.proofs.Passing.{Takes-append}
use Rattle.oidc_cli.proofs.reading.read_script.Goals as goal

pub returns-in_err-extend_from_slice-clause-bounded : goal.returns-in_err-extend_from_slice-clause-bounded
returns-in_err-extend_from_slice-clause-bounded g c = (
  c.loop-piece.script.items ++ take c.in_ok-count.count c.take.new.buf,
  Takes-append _ _ _ _ _ c.loop-piece.invariant.taken c.in_ok-count.ensures.takes,
  grind (arith, common_steps),
)
