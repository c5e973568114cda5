use Rattle.oidc_oauth2.specs.Messages.{seen_response}
use Rattle.oidc_login.specs.Types.{site_types}
use Rattle.oidc_login.proofs.Parts.{by_tokens, without_tokens}
use Rattle.oidc_login.proofs.callback.token.user_of_answer.Goals as goal

pub returns-in-Ok-tokens_of-clause-gives : goal.returns-in-Ok-tokens_of-clause-gives
returns-in-Ok-tokens_of-clause-gives g c =
    let types = site_types g.AC.AdditionalClaims.read_of g.GC.GenderClaim.read_of g.K.JsonWebKey g.K.KeyUse.JsonWebKeyUse in
    rw c.in-Ok.is
    (by_tokens types c.args.client.now c.args.now.nanosecond c.args.login.now (seen_response c.in-Ok.response) c.in-Ok-tokens_of.tokens c.user_of_tokens.result
    (rw c.reading.ensures.reading at c.in-Ok-tokens_of.ensures.gives) c.user_of_tokens.ensures.gives)

pub returns-in-Err-tokens_of-clause-gives : goal.returns-in-Err-tokens_of-clause-gives
returns-in-Err-tokens_of-clause-gives g c =
    let types = site_types g.AC.AdditionalClaims.read_of g.GC.GenderClaim.read_of g.K.JsonWebKey g.K.KeyUse.JsonWebKeyUse in
    rw c.in-Ok.is
    (without_tokens types c.args.client.now c.args.now.nanosecond c.args.login.now (seen_response c.in-Ok.response) c.in-Err-tokens_of.error (rw c.reading.ensures.reading at c.in-Err-tokens_of.ensures.gives))
