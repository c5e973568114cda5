use Rattle.std.proofs.Common.{refl}
use Rattle.std.specs.String.{string_bytes}
use Rattle.oidc_cli.proofs.FormTexts.{parse_text}
use Rattle.oidc_cli.proofs.report.push_parse.Goals as goal

pub returns : goal.returns
returns c =
    parse_text c.args.refusal.now (string_bytes c.args.text.now) (string_bytes c.push_str.new.self) (string_bytes c.push_first.new.text) (string_bytes c.push_behind.new.text)
    c.in_ok-push_str.ensures.bytes
    (rw (c.in_ok-push_first.ensures, c.as_bytes.ensures.value, c.kind_word.ensures) refl)
    (rw (c.in_ok-push_behind.ensures, c.as_bytes-2.ensures.value, c.as_str.ensures) refl)
