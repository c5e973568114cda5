use Rattle.std.specs.Prelude.{codes}
use Rattle.oidc_cli.specs.Drill.{issuer}
use Rattle.oidc_cli.proofs.DrillTexts.{issuer_taken, some_taken, url_taken}
use Rattle.oidc_cli.proofs.drill.provider.issuer.Goals as goal

pub url_at-requires : goal.url_at-requires
url_at-requires c = record { taken = some_taken _ issuer issuer_taken }

pub returns : goal.returns
returns c = url_taken c.url_at.result (codes "https://example") issuer issuer_taken c.url_at.ensures
