use Rattle.std.proofs.Common.{◌+◌, ◌++◌, drop, sym, ap, ◌∙◌, append_assoc}
use Rattle.std.specs.String.{string_bytes}
use Rattle.oidc_cli.specs.Report.{request_line, request_lines}
use Rattle.oidc_cli.proofs.Callbacks.{lines_at}
use Rattle.oidc_cli.proofs.replay.push_requests.Goals as goal

pub loop-request-preserved : goal.loop-request-preserved
loop-request-preserved c =
    let left = lines_at c.args.requests.now c.loop-request.request-index c.request-item.result c.loop-request-test.true c.request-item.is in
    let later = request_lines (drop (c.loop-request.request-index + 1) c.args.requests.now) in
    record {
      lines = ap (λ t. t ++ later) c.in_ok-push_request.ensures
          ∙ append_assoc (string_bytes c.loop-request.text) (request_line c.request-item.result) later
          ∙ ap (λ l. string_bytes c.loop-request.text ++ l) (sym left)
          ∙ c.loop-request.invariant.lines;
    }
