use Rattle.oidc_login.proofs.Begun.{cause_of}
use Rattle.oidc_login.proofs.Endpoints as endpoints
use Rattle.oidc_login.specs.declared.errors.BeginError.TheVariants as begin
use Rattle.oidc_login.proofs.logins.Logins.begin.Goals as goal

pub returns-clause-flow : goal.returns-clause-flow
returns-clause-flow g c = cause_of _ _ _ _ begin.Flow _ c.begun_url.ensures.reply

pub returns-clause-client_id : goal.returns-clause-client_id
returns-clause-client_id g c = rw (← c.self.view_is, ← c.client_id.ensures.id) (cause_of _ _ _ _ begin.ClientId _ c.begun_url.ensures.reply)

pub returns-clause-verifier : goal.returns-clause-verifier
returns-clause-verifier g c = cause_of _ _ _ _ begin.Verifier _ c.begun_url.ensures.reply

pub returns-clause-user_info : goal.returns-clause-user_info
returns-clause-user_info g c = rw (← c.self.view_is, ← c.has_user_info.ensures) (cause_of _ _ _ _ begin.UserInfoEndpoint _ c.begun_url.ensures.reply)

pub returns-clause-pending : goal.returns-clause-pending
returns-clause-pending g c = rw (← c.self.view_is) (cause_of _ _ _ _ begin.Pending _ c.begun_url.ensures.reply)

pub returns-clause-too_long : goal.returns-clause-too_long
returns-clause-too_long g c = cause_of _ _ _ _ begin.TooLong _ c.begun_url.ensures.reply

pub invariant_of-self : goal.invariant_of-self
invariant_of-self g c = (
  c.begun_url.ensures.verifiers c.self.invariant.0,
  endpoints.begun _ _ _ _ _ _ (rw c.has_user_info.ensures at c.begun_url.ensures.reply) c.begun_url.ensures.ok c.begun_url.ensures.err c.self.invariant.1,
)

pub returns-clause-endpoints : goal.returns-clause-endpoints
returns-clause-endpoints g c =
    endpoints.begun _ _ _ _ _ _ (rw c.has_user_info.ensures at c.begun_url.ensures.reply) c.begun_url.ensures.ok c.begun_url.ensures.err c.self.invariant.1

pub returns-clause-verifiers : goal.returns-clause-verifiers
returns-clause-verifiers g c = c.begun_url.ensures.verifiers c.self.invariant.0
