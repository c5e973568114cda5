use Rattle.oidc_members.specs.Scan.{ArePlain}
use Rattle.oidc_members.proofs.scan.plain_end.Given as goal

abbrev pub invariant-loop-i : goal.invariant-loop-i
invariant-loop-i l = ArePlain l.text l.from l.i
