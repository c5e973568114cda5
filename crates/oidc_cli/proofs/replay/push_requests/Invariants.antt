use Rattle.std.proofs.Common.{◌≡◌, ◌++◌, drop}
use Rattle.std.specs.String.{string_bytes}
use Rattle.oidc_cli.specs.Report.{request_lines}
use Rattle.oidc_cli.proofs.replay.push_requests.Given as goal

abbrev pub invariant-loop-request : goal.invariant-loop-request
invariant-loop-request l = record {
  lines : string_bytes l.text ++ request_lines (drop l.request-index l.requests) ≡ string_bytes l.fn.text ++ request_lines l.requests;
}
