use Rattle.std.proofs.Common.{◌≡◌, ◌≤◌, ◌+◌, ◌++◌, length}
use Rattle.std.specs.String.{string_bytes}
use Rattle.oidc_cli.specs.Sinks.{PutsSoFar}
use Rattle.oidc_cli.specs.Script.{lines, fault_from}
use Rattle.oidc_cli.specs.Steps.{rest_of_report}
use Rattle.oidc_cli.proofs.replay.put_lines.Given as goal

abbrev pub invariant-loop-line : goal.invariant-loop-line
invariant-loop-line g l = record {
  put : PutsSoFar (g.O.Sink.written l.fn.sink) (g.O.Sink.written l.sink)
      (string_bytes l.text ++ rest_of_report l.logins.client l.logins.pending l.number (lines l.left) (fault_from 2 (lines l.script)))
      (string_bytes l.fn.text ++ rest_of_report l.fn.logins.client l.fn.logins.pending 2 (lines l.script) (fault_from 2 (lines l.script)));
  fault : fault_from l.number (lines l.left) ≡ fault_from 2 (lines l.script);
  same : l.logins.client ≡ l.client;
  counts : g.O.Sink.faults l.fn.sink ≤ g.O.Sink.faults l.sink;
  numbered : l.number + length l.left ≤ length l.script + 2;
}

abbrev pub decreases-loop-line : goal.decreases-loop-line
decreases-loop-line g l = length l.left
