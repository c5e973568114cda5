use Rattle.std.proofs.Common.{Ok, Err}
use Rattle.oidc_claims.specs.contracts.gender.CoreGenderClaimGenderClaim.TheImpl.{ghosts as of_genders}
use Rattle.tests_of_provider.proofs.FirstUser.{first, grant_is, moment_is}
use Rattle.tests_of_provider.proofs.literals.signed.Goals as goal

pub returns-in-Ok-clause-user : goal.returns-in-Ok-clause-user
returns-in-Ok-clause-user c =
    (first of_genders.write_of _ _ (Ok c.in-Ok.user) _ _ _ _ _ c.requires.provider c.requires.logins c.requires.url
    (grant_is _ _ _ _ c.requires.claims c.requires.info c.requires.code c.requires.token)
    (moment_is _ c.moment-now.ensures) c.in-Ok.ensures.signs_in c.in-Ok.ensures.grants).0

pub returns-in-Err-clause-ends : goal.returns-in-Err-clause-ends
returns-in-Err-clause-ends c =
    (first of_genders.write_of _ _ (Err c.in-Err.end) _ _ _ _ _ c.requires.provider c.requires.logins c.requires.url
    (grant_is _ _ _ _ c.requires.claims c.requires.info c.requires.code c.requires.token)
    (moment_is _ c.moment-now.ensures) c.in-Err.ensures.signs_in c.in-Err.ensures.grants).1
