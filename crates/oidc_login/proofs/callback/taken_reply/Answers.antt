use Rattle.std.proofs.Common.{refl, ap}
use Rattle.oidc_login.specs.Logins.{SeenLogin}
use Rattle.oidc_oauth2.proofs.Runs.{memory_first}
use Rattle.oidc_login.proofs.Drives as drives
use Rattle.oidc_login.proofs.callback.taken_reply.Goals as goal

pub returns-in_default-clause-follows : goal.returns-in_default-clause-follows
returns-in_default-clause-follows g c = memory_first _ _ _ _ _ refl c.in_default.ensures.exchanged

pub returns-in-Ok-checked-clause-follows : goal.returns-in-Ok-checked-clause-follows
returns-in-Ok-checked-clause-follows g c =
    drives.opened_followed _ _ _ _ _ _ _ _ _ _ c.taken.view_is _ c.in-Ok.ensures.exchanged
    (drives.token_followed _ _ c.taken.inside.login _ _ _ _ _ _ c.in-Ok-checked.ensures.gives (ap (λ (l : SeenLogin). l.user_info) c.login.view_is) c.demand_reply.ensures.follows)

pub returns-in-Err-clause-follows : goal.returns-in-Err-clause-follows
returns-in-Err-clause-follows g c =
    drives.opened_followed _ _ _ _ _ _ _ _ _ _ c.taken.view_is _ c.in-Ok.ensures.exchanged
    (drives.token_refused _ _ c.taken.inside.login _ _ _ c.in-Err.ensures.gives)
