use Rattle.std.proofs.Common.{refl}
use Rattle.oidc_oauth2.proofs.Runs.{memory_first}
use Rattle.oidc_login.proofs.Drives as drives
use Rattle.oidc_login.proofs.callback.prepared_reply.Goals as goal

pub returns-in_default-clause-follows : goal.returns-in_default-clause-follows
returns-in_default-clause-follows g c = memory_first _ _ _ _ _ refl c.in_default.ensures.exchanged

pub returns-clause-follows : goal.returns-clause-follows
returns-clause-follows g c =
    drives.info_answered _ _ _ _ _ _ _ _ c.prepared.view_is _ c.in-Ok.ensures.exchanged c.user_with_info.ensures.gives
