use Rattle.oidc_session.proofs.Rows.{names_of}
use Rattle.oidc_session.proofs.sessions.log_out.Goals as goal

pub log_out-requires : goal.log_out-requires
log_out-requires g c = names_of _ _ _ _ _ _ c.in-Ok.ensures
