use Rattle.oidc_login.proofs.Signing.{signs}
use Rattle.oidc_login.proofs.callback.token.user_of_tokens.Goals as goal

pub returns-in-Ok-clause-gives : goal.returns-in-Ok-clause-gives
returns-in-Ok-clause-gives g c =
    signs _ c.args.client.now c.args.now.nanosecond c.args.login.now c.args.tokens c.new.result c.in-Ok.ensures.there c.new.ensures c.in-Ok.ensures.passed
