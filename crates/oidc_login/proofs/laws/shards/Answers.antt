use Rattle.oidc_login.specs.Types.{site_types}
use Rattle.oidc_login.proofs.Isolated as isolated
use Rattle.oidc_login.proofs.laws.shards.Goals as goal

pub returns : goal.returns
returns g c = isolated.shards (site_types g.AC.AdditionalClaims.read_of g.GC.GenderClaim.read_of g.K.JsonWebKey g.K.KeyUse.JsonWebKeyUse)
