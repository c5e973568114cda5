use Rattle.oidc_device.proofs.Called as called
use Rattle.oidc_device.proofs.login.DeviceLogin.step.Goals as goal

pub returns-clause-ran : goal.returns-clause-ran
returns-clause-ran g c = rw (← c.self.view_is) c.stepped-reply.ensures.ran

pub returns-clause-over : goal.returns-clause-over
returns-clause-over g c = rw (← c.self.view_is) (called.over_of _ _ _ _ _ _ c.stepped-reply.ensures.ran)

pub returns-clause-is_over : goal.returns-clause-is_over
returns-clause-is_over g c = rw (← c.self.view_is) (called.is_over_given _ _ _ _ _ _ c.stepped-reply.ensures.ran c.stepped-reply.ensures.memory)

pub returns-clause-expired : goal.returns-clause-expired
returns-clause-expired g c = rw (← c.self.view_is) (called.expired_of _ _ _ _ _ _ c.stepped-reply.ensures.ran)

pub returns-clause-has_expired : goal.returns-clause-has_expired
returns-clause-has_expired g c = rw (← c.self.view_is) (called.has_expired_given _ _ _ _ _ _ c.stepped-reply.ensures.ran c.stepped-reply.ensures.memory)

pub returns-clause-wait : goal.returns-clause-wait
returns-clause-wait g c = rw (← c.self.view_is) (called.wait_of _ _ _ _ _ _ c.stepped-reply.ensures.ran)

pub returns-clause-waits : goal.returns-clause-waits
returns-clause-waits g c = rw (← c.self.view_is) (called.waits_given _ _ _ _ _ _ c.stepped-reply.ensures.ran c.stepped-reply.ensures.memory)

pub returns-clause-memory : goal.returns-clause-memory
returns-clause-memory g c = rw (← c.self.view_is) c.stepped-reply.ensures.memory

pub returns-clause-idle : goal.returns-clause-idle
returns-clause-idle g c = rw (← c.self.view_is) c.stepped-reply.ensures.idle

pub returns-clause-uri : goal.returns-clause-uri
returns-clause-uri g c = rw (← c.self.view_is) (called.uri_of _ _ _ _ _ _ c.stepped-reply.ensures.ran)

pub returns-clause-no_address : goal.returns-clause-no_address
returns-clause-no_address g c = rw (← c.self.view_is) (called.no_address_given _ _ _ _ _ _ c.stepped-reply.ensures.ran)

pub returns-clause-accepted : goal.returns-clause-accepted
returns-clause-accepted g c = rw (← c.self.view_is) (called.done_accepted _ _ _ _ _ _ c.stepped-reply.ensures.ran)

pub returns-clause-hash : goal.returns-clause-hash
returns-clause-hash g c = rw (← c.self.view_is) (called.done_hash _ _ _ _ _ _ c.stepped-reply.ensures.ran)

pub returns-clause-no_inner_memory : goal.returns-clause-no_inner_memory
returns-clause-no_inner_memory g c = called.no_inner_memory _ _ _ _ _ _ c.stepped-reply.ensures.ran g.met.K.JsonWebKey.verdict_is_never_memory
