use Rattle.std.specs.Prelude.{codes}
use Rattle.std.specs.String.{string_bytes}
use Rattle.oidc_oauth2.specs.TokenAnswers.{seen_refusal}
use Rattle.oidc_cli.specs.Report.{token_words, verdict_line}
use Rattle.oidc_cli.proofs.FormTexts.{line_pushed}
use Rattle.oidc_cli.proofs.report.push_token.Goals as goal

pub returns : goal.returns
unfolding verdict_line
returns c =
    line_pushed (string_bytes c.args.text.now) (codes "callback refused token ") (token_words (seen_refusal c.args.error.now)) (string_bytes c.push_str.new.self) (string_bytes c.push_token_words.new.text) (string_bytes c.push_str-2.new.self)
    c.in_ok-push_str.ensures.bytes c.in_ok-push_token_words.ensures c.in_ok-push_str-2.ensures.bytes
