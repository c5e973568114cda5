use Rattle.std.specs.String.{string_bytes}
use Rattle.oidc_login.specs.Errors.{seen_reply}
use Rattle.oidc_cli.specs.Report.{request_lines, verdict_line}
use Rattle.oidc_cli.proofs.Passing.{on_ok_weaker}
use Rattle.oidc_cli.proofs.FormTexts.{both_pushed}
use Rattle.oidc_cli.proofs.replay.push_replied.Goals as goal

pub returns : goal.returns
returns c = λ free.
    on_ok_weaker _ _ _ (both_pushed (string_bytes c.args.text.now) (request_lines c.args.replied.now.http.requests) (verdict_line (seen_reply c.args.replied.now.reply))
    (string_bytes c.push_requests.new.text) (string_bytes c.push_verdict.new.text) (rw c.requests.ensures.requests at c.in_ok-push_requests.ensures))
    (c.push_verdict.ensures.line free)
