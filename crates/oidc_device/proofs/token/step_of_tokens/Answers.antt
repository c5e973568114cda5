use Rattle.oidc_device.proofs.Signing.{signs, step_signed, step_refused}
use Rattle.oidc_device.proofs.token.step_of_tokens.Goals as goal

pub returns-in-Ok-clause-gives : goal.returns-in-Ok-clause-gives
returns-in-Ok-clause-gives g c =
    step_signed _ c.args.client.now c.args.now.nanosecond c.args.tokens _
    (signs _ c.args.client.now c.args.now.nanosecond c.args.tokens c.new.result c.in-Ok.ensures.there c.new.ensures c.in-Ok.ensures.passed)

pub returns-in-Err-clause-gives : goal.returns-in-Err-clause-gives
returns-in-Err-clause-gives g c = step_refused _ c.args.client.now c.args.now.nanosecond c.args.tokens c.in-Err.error c.in-Err.ensures.refused
