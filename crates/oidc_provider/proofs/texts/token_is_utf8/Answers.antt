use Rattle.std.proofs.Common.{subst, ap, ◌∙◌}
use Rattle.std.specs.Prelude.{IsUtf8}
use Rattle.oidc_provider.proofs.texts.token_is_utf8.Goals as goal

pub returns : goal.returns
returns g c = subst IsUtf8 (c.as_bytes.ensures.value ∙ c.as_str.ensures.text ∙ ap (λ t. t.text) c.token.ensures.token) c.as_bytes.ensures.utf8
