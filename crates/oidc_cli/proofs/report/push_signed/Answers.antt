use Rattle.std.proofs.Common.{refl}
use Rattle.std.specs.String.{string_bytes}
use Rattle.oidc_cli.proofs.FormTexts.{signed_text}
use Rattle.oidc_cli.proofs.report.push_signed.Goals as goal

pub returns : goal.returns
returns c = λ free.
    signed_text c.args.signed.now (string_bytes c.args.text.now) (string_bytes c.push_str.new.self) (string_bytes c.push_first.new.text) (string_bytes c.push_refresh.new.text)
    (string_bytes c.push_behind.new.text) (string_bytes c.push_user_info.new.text) (string_bytes c.push_str-2.new.self)
    c.in_ok-push_str.ensures.bytes
    (rw (c.in_ok-push_first.ensures, c.as_bytes.ensures.value, c.secret.ensures.text, c.access_token.ensures) refl)
    (rw (c.in_ok-push_refresh.ensures, c.refresh_token.ensures) refl)
    (rw (c.in_ok-push_behind.ensures, c.as_slice.ensures.value, c.in_ok-claims.ensures (rw c.claims.ensures.claims free.0), c.claims.ensures.claims) refl)
    (rw (c.in_ok-push_user_info.ensures (rw c.user_info.ensures free.1), c.user_info.ensures) refl)
    c.in_ok-push_str-2.ensures.bytes
