use Rattle.oidc_provider.proofs.ReadAgain.{info_again}
use Rattle.oidc_provider.proofs.issuing.info_body.Goals as goal

pub returns-clause-reads_back : goal.returns-clause-reads_back
returns-clause-reads_back g c =
    info_again g.AC.AdditionalClaims.read_of g.GC.GenderClaim.read_of g.AC.AdditionalClaims.write_of c.args.claims.now c.in_ok-members.members.items c.in_ok-body.body.items
    c.in_ok-members.ensures.no_float (rw c.deref.ensures.value at c.in_ok-body.ensures) c.in_ok-members.ensures.reads_back
