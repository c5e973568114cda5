use Rattle.std.proofs.Common.{append_assoc}
use Rattle.oidc_cli.proofs.report.push_first.Goals as goal

pub returns : goal.returns
returns c = rw (c.in_ok-push_escaped-2.ensures, c.in_ok-push_str.ensures.bytes, c.in_ok-push_escaped.ensures, c.as_bytes.ensures.value) (simp append_assoc)
