use Rattle.std.proofs.Common.{◌≡◌, length}
use Rattle.oidc_cli.proofs.Writing.{IsWrittenSoFar}
use Rattle.oidc_cli.proofs.sinks.CountedSink.put.Given as goal

abbrev pub invariant-loop-rest : goal.invariant-loop-rest
invariant-loop-rest g l = record {
  written : IsWrittenSoFar (g.W.Write.contents l.fn.self.inner) (g.W.Write.contents l.self-inside.inner) l.fn.piece l.rest;
  uncounted : l.self-inside.faults ≡ l.fn.self.faults;
}

abbrev pub decreases-loop-rest : goal.decreases-loop-rest
decreases-loop-rest g l = length l.rest
