use Rattle.oidc_login.specs.Errors.{is_spent_by}
use Rattle.oidc_pairs.specs.Pairs.{pairs}
use Rattle.oidc_login.proofs.Called as called
use Rattle.oidc_login.proofs.Endpoints as endpoints
use Rattle.oidc_login.proofs.logins.Logins.callback.Goals as goal

pub returns-clause-named : goal.returns-clause-named
returns-clause-named g c = rw (← c.self.view_is) (called.ok_named _ _ _ _ _ c.callback_reply.ensures.ran)

pub returns-clause-accepted : goal.returns-clause-accepted
returns-clause-accepted g c = rw (← c.self.view_is) (called.ok_accepted _ _ _ _ _ c.callback_reply.ensures.ran)

pub returns-clause-hash : goal.returns-clause-hash
returns-clause-hash g c = rw (← c.self.view_is) (called.ok_hash _ _ _ _ _ c.callback_reply.ensures.ran)

pub returns-clause-user_info : goal.returns-clause-user_info
returns-clause-user_info g c = rw (← c.self.view_is) (called.ok_user_info _ _ _ _ _ c.callback_reply.ensures.ran)

pub returns-clause-subject : goal.returns-clause-subject
returns-clause-subject g c = called.ok_subject _ _ _ _ _ c.callback_reply.ensures.ran

pub returns-clause-too_long : goal.returns-clause-too_long
returns-clause-too_long g c = called.too_long_of _ _ _ _ _ c.callback_reply.ensures.ran

pub returns-clause-state : goal.returns-clause-state
returns-clause-state g c = rw (← c.self.view_is) (called.state_of _ _ _ _ _ c.callback_reply.ensures.ran)

pub returns-clause-no_state : goal.returns-clause-no_state
returns-clause-no_state g c = rw (← c.self.view_is) (called.no_state_of _ _ _ _ _ c.callback_reply.ensures.ran)

pub returns-clause-provider : goal.returns-clause-provider
returns-clause-provider g c = rw (← c.self.view_is) (called.provider_of _ _ _ _ _ c.callback_reply.ensures.ran)

pub returns-clause-error : goal.returns-clause-error
returns-clause-error g c = rw (← c.self.view_is) (called.error_given _ _ _ _ _ c.callback_reply.ensures.ran)

pub returns-clause-callback : goal.returns-clause-callback
returns-clause-callback g c = rw (← c.self.view_is) (called.callback_of _ _ _ _ _ c.callback_reply.ensures.ran)

pub returns-clause-no_code : goal.returns-clause-no_code
returns-clause-no_code g c = rw (← c.self.view_is) (called.no_code_given _ _ _ _ _ c.callback_reply.ensures.ran)

pub returns-clause-uri : goal.returns-clause-uri
returns-clause-uri g c = rw (← c.self.view_is) (called.uri_of _ _ _ _ _ c.callback_reply.ensures.ran)

pub returns-clause-no_address : goal.returns-clause-no_address
returns-clause-no_address g c = rw (← c.self.view_is) (called.no_address_given _ _ _ _ _ c.callback_reply.ensures.ran)

pub returns-clause-no_inner_memory : goal.returns-clause-no_inner_memory
returns-clause-no_inner_memory g c = called.no_inner_memory _ _ _ _ _ c.callback_reply.ensures.ran g.met.K.JsonWebKey.verdict_is_never_memory

pub returns-clause-idle : goal.returns-clause-idle
returns-clause-idle g c = rw (← c.self.view_is) c.callback_reply.ensures.idle

pub returns-clause-endpoints : goal.returns-clause-endpoints
returns-clause-endpoints g c = endpoints.called _ (is_spent_by c.callback_reply.result) _ _ (pairs c.args.query.now) c.callback_reply.ensures.store c.self.invariant.1

pub invariant_of-self : goal.invariant_of-self
invariant_of-self g c = (c.callback_reply.ensures.verifiers c.self.invariant.0, endpoints.called _ (is_spent_by c.callback_reply.result) _ _ (pairs c.args.query.now) c.callback_reply.ensures.store c.self.invariant.1)
