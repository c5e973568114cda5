use Rattle.oidc_provider.proofs.GrantSigns as grants
use Rattle.oidc_provider.proofs.laws.grant_signs_in.Goals as goal

pub returns : goal.returns
returns g c = grants.grant_signs_in g.AC.AdditionalClaims.read_of g.GC.GenderClaim.read_of g.AC.AdditionalClaims.write_of g.GC.GenderClaim.write_of
