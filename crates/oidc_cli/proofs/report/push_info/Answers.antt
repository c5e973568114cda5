use Rattle.std.specs.Prelude.{codes}
use Rattle.std.specs.String.{string_bytes}
use Rattle.oidc_user_info.specs.InfoErrors.{seen_refusal}
use Rattle.oidc_cli.specs.Report.{info_words, verdict_line}
use Rattle.oidc_cli.proofs.FormTexts.{line_pushed}
use Rattle.oidc_cli.proofs.report.push_info.Goals as goal

pub returns : goal.returns
unfolding verdict_line
returns c =
    line_pushed (string_bytes c.args.text.now) (codes "callback refused user_info ") (info_words (seen_refusal c.args.error.now)) (string_bytes c.push_str.new.self) (string_bytes c.push_info_words.new.text) (string_bytes c.push_str-2.new.self)
    c.in_ok-push_str.ensures.bytes c.in_ok-push_info_words.ensures c.in_ok-push_str-2.ensures.bytes
