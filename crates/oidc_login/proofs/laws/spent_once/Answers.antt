use Rattle.oidc_login.specs.Types.{site_types}
use Rattle.oidc_login.proofs.Spent as spent
use Rattle.oidc_login.proofs.laws.spent_once.Goals as goal

pub returns : goal.returns
returns g c = spent.spent_once (site_types g.AC.AdditionalClaims.read_of g.GC.GenderClaim.read_of g.K.JsonWebKey g.K.KeyUse.JsonWebKeyUse)
