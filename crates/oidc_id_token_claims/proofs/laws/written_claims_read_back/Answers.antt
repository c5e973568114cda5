use Rattle.oidc_id_token_claims.proofs.ClaimsBack.{gives_claims}
use Rattle.oidc_id_token_claims.proofs.laws.written_claims_read_back.Goals as goal

pub returns : goal.returns
returns g c = λ claims range texts.
    gives_claims g.AC.AdditionalClaims.read_of g.AC.AdditionalClaims.write_of g.GC.GenderClaim.read_of g.GC.GenderClaim.write_of g.met.AC.AdditionalClaims.reads_back
    g.met.AC.AdditionalClaims.stays_additional g.met.GC.GenderClaim.reads_back g.met.GC.GenderClaim.written_is_value claims range texts
