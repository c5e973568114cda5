use Rattle.oidc_login.specs.Types.{site_types}
use Rattle.oidc_login.specs.FrontSteps.{token_in, answer_with, answer_in}
use Rattle.oidc_login.proofs.Fronts.{after_value, value_stops}
use Rattle.oidc_login.proofs.front.answer_in.Goals as goal

pub returns-in-Ok : goal.returns-in-Ok
unfolding answer_in
returns-in-Ok g c =
    let types = site_types g.AC.AdditionalClaims.read_of g.GC.GenderClaim.read_of g.K.JsonWebKey g.K.KeyUse.JsonWebKeyUse in
    after_value c.answer_with.result (token_in types c.args.client.now.reading c.args.query.now) c.in-Ok.token (answer_with types c.args.client.now c.args.nonce.now c.args.now.nanosecond c.args.query.now)
    (rw c.reading.ensures.reading at c.in-Ok.ensures) c.answer_with.ensures

pub returns-in-Err : goal.returns-in-Err
unfolding answer_in
returns-in-Err g c = value_stops c.in-Err.error _ _ (rw c.reading.ensures.reading at c.in-Err.ensures)
