use Rattle.oidc_session.proofs.Called as called
use Rattle.oidc_session.proofs.sessions.Sessions.provider_logout.Goals as goal

pub returns-clause-cause : goal.returns-clause-cause
returns-clause-cause g c = rw (← c.self.view_is) (called.caused _ _ _ _ _ _ c.log_out.ensures.reply)

pub returns-clause-refused : goal.returns-clause-refused
returns-clause-refused g c = rw (← c.self.view_is) (called.refused_given _ _ _ _ _ _ c.log_out.ensures.reply)

pub returns-clause-accepted : goal.returns-clause-accepted
returns-clause-accepted g c = rw (← c.self.view_is) (called.ok_accepted _ _ _ _ _ _ c.log_out.ensures.reply _ c.log_out.ensures.ok)

pub returns-clause-accepts : goal.returns-clause-accepts
returns-clause-accepts g c = rw (← c.self.view_is) (called.accepts_given _ _ _ _ _ _ c.log_out.ensures.reply)

pub returns-clause-no_inner_memory : goal.returns-clause-no_inner_memory
returns-clause-no_inner_memory g c = called.no_inner_memory _ _ _ _ _ _ c.log_out.ensures.reply g.met.K.JsonWebKey.verdict_is_never_memory
