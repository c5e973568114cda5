use Rattle.std.proofs.Common.{◌∙◌}
use Rattle.oidc_login.specs.Types.{site_types}
use Rattle.oidc_login.proofs.Fronts.{answered, row_stops}
use Rattle.oidc_login.proofs.front.answer_with.Goals as goal

pub returns-in-Ok-checked_token : goal.returns-in-Ok-checked_token
returns-in-Ok-checked_token g c =
    let types = site_types g.AC.AdditionalClaims.read_of g.GC.GenderClaim.read_of g.K.JsonWebKey g.K.KeyUse.JsonWebKeyUse in
    answered types c.args.client.now c.args.nonce.now c.args.now.nanosecond c.args.query.now c.args.token c.new.result c.new.ensures.token
    (c.new.ensures.access_token ∙ c.in-Ok.ensures.access_token) c.in-Ok-checked_token.ensures.one_token (c.new.ensures.code ∙ c.in-Ok.ensures.code) c.in-Ok-checked_token.ensures.one_code
    c.in-Ok-checked_token.ensures.gives

pub returns-in-Err : goal.returns-in-Err
returns-in-Err g c = row_stops c.in-Err.error _ _ c.in-Err.ensures.gives
