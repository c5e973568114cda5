use Rattle.oidc_user_info.proofs.ClaimsBack.{comes_back, members_free}
use Rattle.oidc_user_info.proofs.token.UserInfoJsonWebToken.new.Goals as goal

pub returns-in-Ok-clause-issued : goal.returns-in-Ok-clause-issued
returns-in-Ok-clause-issued g c = λ free.
    c.in-Ok.ensures.issued (members_free g.AC.AdditionalClaims.write_of g.GC.GenderClaim.write_of g.met.GC.GenderClaim.written_is_value c.args.claims free)

pub returns-in-Err-clause-issued : goal.returns-in-Err-clause-issued
returns-in-Err-clause-issued g c = λ free.
    c.in-Err.ensures.issued (members_free g.AC.AdditionalClaims.write_of g.GC.GenderClaim.write_of g.met.GC.GenderClaim.written_is_value c.args.claims free)

pub returns-in-Ok-clause-reads_back : goal.returns-in-Ok-clause-reads_back
returns-in-Ok-clause-reads_back g c = λ reading named range.
    c.in-Ok.ensures.reads_back reading named
    (comes_back g.AC.AdditionalClaims.read_of g.AC.AdditionalClaims.write_of g.GC.GenderClaim.read_of g.GC.GenderClaim.write_of g.met.AC.AdditionalClaims.reads_back g.met.AC.AdditionalClaims.stays_additional
    g.met.GC.GenderClaim.reads_back g.met.GC.GenderClaim.written_is_value c.args.claims range reading)
