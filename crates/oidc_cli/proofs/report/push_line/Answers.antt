use Rattle.std.specs.String.{string_bytes}
use Rattle.oidc_cli.proofs.FormTexts.{line_pushed}
use Rattle.oidc_cli.proofs.report.push_line.Goals as goal

pub returns : goal.returns
returns c =
    line_pushed (string_bytes c.args.text.now) c.args.words.now c.args.word.now (string_bytes c.push_str.new.self) (string_bytes c.push_str-2.new.self) (string_bytes c.push_str-3.new.self)
    c.in_ok-push_str.ensures.bytes c.in_ok-push_str-2.ensures.bytes c.in_ok-push_str-3.ensures.bytes
