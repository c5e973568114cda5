use Rattle.oidc_oauth2.specs.Messages.{seen_response}
use Rattle.oidc_login.specs.Types.{site_types}
use Rattle.oidc_login.proofs.Parts.{with_info, without_info}
use Rattle.oidc_login.proofs.callback.user_info.user_with_info.Goals as goal

pub returns-in-Ok-with_user_info-clause-gives : goal.returns-in-Ok-with_user_info-clause-gives
returns-in-Ok-with_user_info-clause-gives g c =
    let types = site_types g.AC.AdditionalClaims.read_of g.GC.GenderClaim.read_of g.K.JsonWebKey g.K.KeyUse.JsonWebKeyUse in
    rw (c.in-Ok.is, c.in-Ok-with_user_info.ensures)
    (with_info types c.args.ask.demand c.args.user (seen_response c.in-Ok.response) c.in-Ok-info_of.found c.in-Ok-info_of.ensures.gives)

pub returns-in-Err-info_of-clause-gives : goal.returns-in-Err-info_of-clause-gives
returns-in-Err-info_of-clause-gives g c =
    let types = site_types g.AC.AdditionalClaims.read_of g.GC.GenderClaim.read_of g.K.JsonWebKey g.K.KeyUse.JsonWebKeyUse in
    rw c.in-Ok.is (without_info types c.args.ask.demand c.args.user (seen_response c.in-Ok.response) c.in-Err-info_of.error c.in-Err-info_of.ensures.gives)
