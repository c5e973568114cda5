use Rattle.oidc_cli.proofs.Algorithms.{ReadSoFar, turns_left}
use Rattle.oidc_cli.proofs.script.values.algorithms_of.Given as goal

abbrev pub invariant-loop-rest : goal.invariant-loop-rest
invariant-loop-rest l = ReadSoFar l.text l.algorithms.items l.rest

abbrev pub decreases-loop-rest : goal.decreases-loop-rest
decreases-loop-rest l = turns_left l.rest
