use Rattle.oidc_login.specs.Types.{site_types}
use Rattle.oidc_provider.proofs.HonestLogins.{honest}
use Rattle.oidc_provider.proofs.laws.honest_provider_signs_in.Goals as goal

pub returns : goal.returns
returns g c = honest (site_types g.AC.AdditionalClaims.read_of g.GC.GenderClaim.read_of g.K.JsonWebKey g.K.KeyUse.JsonWebKeyUse)
