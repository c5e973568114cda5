use Rattle.oidc_device.specs.Types.{device_types}
use Rattle.oidc_device.proofs.Polite as law
use Rattle.oidc_device.proofs.laws.polite.Goals as goal

pub returns : goal.returns
returns g c = law.polite (device_types g.AC.AdditionalClaims.read_of g.GC.GenderClaim.read_of g.K.JsonWebKey g.K.KeyUse.JsonWebKeyUse)
