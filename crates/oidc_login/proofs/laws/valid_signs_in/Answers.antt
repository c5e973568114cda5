use Rattle.oidc_login.specs.Types.{site_types}
use Rattle.oidc_login.proofs.EventSteps as steps
use Rattle.oidc_login.proofs.laws.valid_signs_in.Goals as goal

pub returns : goal.returns
returns g c = steps.valid_signs_in (site_types g.AC.AdditionalClaims.read_of g.GC.GenderClaim.read_of g.K.JsonWebKey g.K.KeyUse.JsonWebKeyUse)
