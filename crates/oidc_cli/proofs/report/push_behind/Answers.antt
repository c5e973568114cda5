use Rattle.std.proofs.Common.{append_assoc, append-nil}
use Rattle.oidc_cli.proofs.report.push_behind.Goals as goal

pub returns : goal.returns
returns c = rw (c.in_ok-push_first.ensures, c.in_ok-push_str.ensures.bytes) (simp (append_assoc, append-nil))
