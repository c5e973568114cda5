use Rattle.std.proofs.Common.{◌≤◌, ◌-◌, ◌+◌, length}
use Rattle.oidc_cli.specs.Sources.{Takes}
use Rattle.oidc_cli.specs.Script.{limit}
use Rattle.oidc_cli.proofs.reading.read_script.Given as goal

abbrev pub invariant-loop-piece : goal.invariant-loop-piece
invariant-loop-piece g l = record {
  taken : Takes (g.S.Source.remaining l.fn.source) (g.S.Source.remaining l.source) l.script.items;
  bounded : length l.script.items ≤ limit + 1;
  counts : g.S.Source.faults l.fn.source ≤ g.S.Source.faults l.source;
}

abbrev pub decreases-loop-piece : goal.decreases-loop-piece
decreases-loop-piece g l = limit + 2 - length l.script.items
