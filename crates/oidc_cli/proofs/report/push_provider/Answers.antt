use Rattle.std.proofs.Common.{rules}
use Rattle.std.specs.Prelude.{codes}
use Rattle.std.specs.String.{string_bytes}
use Rattle.oidc_pairs.specs.Form.{escaped}
use Rattle.oidc_types.specs.CoreAuthorization.{auth_error_text}
use Rattle.oidc_cli.specs.Report.{verdict_line}
use Rattle.oidc_cli.proofs.FormTexts.{line_pushed}
use Rattle.oidc_cli.proofs.report.push_provider.Goals as goal

pub returns : goal.returns
unfolding verdict_line
returns c =
    line_pushed (string_bytes c.args.text.now) (codes "callback refused provider ") (escaped (auth_error_text c.args.code.now)) (string_bytes c.push_str.new.self)
    (string_bytes c.push_escaped.new.text) (string_bytes c.push_str-2.new.self) c.in_ok-push_str.ensures.bytes (search rules) c.in_ok-push_str-2.ensures.bytes
