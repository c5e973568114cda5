use Rattle.oidc_claims.proofs.SplitBack.{split_reads_back}
use Rattle.oidc_claims.proofs.laws.written_claims_read_back.Goals as goal

pub returns : goal.returns
returns g c = split_reads_back g.GC.GenderClaim.read_of g.GC.GenderClaim.write_of g.met.GC.GenderClaim.reads_back g.met.GC.GenderClaim.written_is_value
