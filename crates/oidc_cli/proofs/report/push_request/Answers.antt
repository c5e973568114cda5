use Rattle.std.proofs.Common.{refl}
use Rattle.std.specs.String.{string_bytes}
use Rattle.oidc_cli.proofs.FormTexts.{request_text}
use Rattle.oidc_cli.proofs.report.push_request.Goals as goal

pub returns : goal.returns
returns c =
    request_text c.args.request.now (string_bytes c.args.text.now) (string_bytes c.push_str.new.self) (string_bytes c.push_first.new.text) (string_bytes c.push_behind.new.text)
    (string_bytes c.push_header.new.text) (string_bytes c.push_header-2.new.text) (string_bytes c.push_header-3.new.text) (string_bytes c.push_body.new.text) (string_bytes c.push_str-2.new.self)
    c.in_ok-push_str.ensures.bytes
    (rw (c.in_ok-push_first.ensures, c.as_bytes.ensures.value, c.as_str.ensures.value, c.method.ensures.method) refl)
    (rw (c.in_ok-push_behind.ensures, c.as_bytes-2.ensures.value, c.address.ensures.address) refl)
    (rw (c.in_ok-push_header.ensures, c.get.ensures.value, c.headers-headers.ensures.headers) refl)
    (rw (c.in_ok-push_header-2.ensures, c.get-2.ensures.value, c.headers-headers.ensures.headers) refl)
    (rw (c.in_ok-push_header-3.ensures, c.get-3.ensures.value, c.headers-headers.ensures.headers) refl)
    c.in_ok-push_body.ensures
    c.in_ok-push_str-2.ensures.bytes
