use Rattle.std.proofs.Common.{Ok, Err}
use Rattle.oidc_readers.specs.Records.{◌>>=◌}
use Rattle.oidc_claims.specs.Standard.{faultless_claims}
use Rattle.oidc_id_token_claims.specs.TokenFields.{own_of}
use Rattle.oidc_id_token_claims.specs.IdTokenClaims.{additional_members, parts_in}
use Rattle.oidc_id_token_claims.proofs.ReadSteps.{stops, gives}
use Rattle.oidc_id_token_claims.proofs.claims.IdTokenClaims.finish.Goals as goal

pub returns-in-Err : goal.returns-in-Err
unfolding parts_in
returns-in-Err g c =
    stops (own_of c.args.members.now.reading c.args.members.now.list)
    (λ own. faultless_claims g.GC.GenderClaim.read_of c.args.members.now.reading c.args.members.now.list >>= λ standard. g.AC.AdditionalClaims.read_of (additional_members c.args.members.now.list) >>= λ additional. Ok (record { own = own; standard_claims = standard; additional_claims = additional }))
    c.in-Err.error c.in-Err.ensures

pub returns-in-Err-finish : goal.returns-in-Err-finish
unfolding parts_in
returns-in-Err-finish g c =
    gives (own_of c.args.members.now.reading c.args.members.now.list)
    (λ own. faultless_claims g.GC.GenderClaim.read_of c.args.members.now.reading c.args.members.now.list >>= λ standard. g.AC.AdditionalClaims.read_of (additional_members c.args.members.now.list) >>= λ additional. Ok (record { own = own; standard_claims = standard; additional_claims = additional }))
    c.in-Ok.own (Err c.in-Err-finish.error) c.in-Ok.ensures
    (stops (faultless_claims g.GC.GenderClaim.read_of c.args.members.now.reading c.args.members.now.list)
    (λ standard. g.AC.AdditionalClaims.read_of (additional_members c.args.members.now.list) >>= λ additional. Ok (record { own = c.in-Ok.own; standard_claims = standard; additional_claims = additional }))
    c.in-Err-finish.error (c.in-Err-finish.ensures.claims c.args.members.now.reading c.args.members.now.list c.requires.standard))
