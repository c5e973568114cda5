use Rattle.oidc_provider.proofs.KeptGrants.{kept_stands}
use Rattle.oidc_provider.proofs.laws.kept_grant_stands.Goals as goal

pub returns : goal.returns
returns g c = kept_stands g.AC.AdditionalClaims.read_of g.GC.GenderClaim.read_of g.AC.AdditionalClaims.write_of g.GC.GenderClaim.write_of
