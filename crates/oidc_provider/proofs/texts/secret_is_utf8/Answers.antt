use Rattle.std.proofs.Common.{subst, ◌∙◌}
use Rattle.std.specs.Prelude.{IsUtf8}
use Rattle.oidc_provider.proofs.texts.secret_is_utf8.Goals as goal

pub returns : goal.returns
returns g c = subst IsUtf8 (c.as_bytes.ensures.value ∙ c.secret.ensures.text) c.as_bytes.ensures.utf8
