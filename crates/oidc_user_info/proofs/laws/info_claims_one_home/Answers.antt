use Rattle.oidc_user_info.proofs.OneHome.{accepted_homes}
use Rattle.oidc_user_info.proofs.laws.info_claims_one_home.Goals as goal

pub returns : goal.returns
returns g c = accepted_homes g.AC.AdditionalClaims.read_of g.GC.GenderClaim.read_of
