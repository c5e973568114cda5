use Rattle.std.proofs.Common.{Some, sym, ap, ◌∙◌}
use Rattle.oidc_cli.proofs.ContentTypes.{is_content_type, is_no_content_type}
use Rattle.oidc_cli.proofs.script.values.content_type_of.Goals as goal

pub returns-then-not-is_content_type : goal.returns-then-not-is_content_type
returns-then-not-is_content_type c = sym (is_no_content_type _ (rw c.as_bytes.ensures.value at (sym c.if-not-is_content_type.ensures)))

pub returns-in-Ok : goal.returns-in-Ok
returns-in-Ok c =
    sym (ap (λ v. Some v.bytes) c.in-Ok.ensures.ok
    ∙ is_content_type _ (rw c.as_bytes.ensures.value at (sym c.if-not-is_content_type.ensures)))
