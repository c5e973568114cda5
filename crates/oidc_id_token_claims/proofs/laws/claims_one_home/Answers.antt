use Rattle.oidc_id_token_claims.proofs.OneHome.{accepted_homes}
use Rattle.oidc_id_token_claims.proofs.laws.claims_one_home.Goals as goal

pub returns : goal.returns
returns g c = accepted_homes g.AC.AdditionalClaims.read_of g.GC.GenderClaim.read_of
