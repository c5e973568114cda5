use Rattle.std.proofs.Common.{◌==◌}
use Rattle.oidc_cli.proofs.FirstPlaces.{first_place}
use Rattle.oidc_cli.proofs.script.line_feed.Goals as goal

pub returns : goal.returns
returns c = first_place (λ b. b == 10) _ _ c.memchr.ensures
