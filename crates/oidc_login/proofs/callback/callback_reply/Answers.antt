use Rattle.oidc_login.proofs.Drives as drives
use Rattle.oidc_login.proofs.callback.callback_reply.Goals as goal

pub returns-in-Ok-clause-ran : goal.returns-in-Ok-clause-ran
returns-in-Ok-clause-ran g c = drives.signed _ _ g.met.K.JsonWebKey.verdict_is_never_memory _ c.in-Ok.ensures.gives _ _ _ c.taken_reply.ensures.follows

pub returns-in-Ok-clause-idle : goal.returns-in-Ok-clause-idle
returns-in-Ok-clause-idle g c = λ nothing. absurd (drives.asks_of _ _ _ c.in-Ok.ensures.gives _ _ _ c.taken_reply.ensures.follows nothing)

pub returns-in-Err-clause-ran : goal.returns-in-Err-clause-ran
returns-in-Err-clause-ran g c = drives.unopened _ _ g.met.K.JsonWebKey.verdict_is_never_memory _ _ c.in-Err.ensures.gives
