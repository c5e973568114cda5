use Rattle.std.proofs.Common.{subst}
use Rattle.oidc_oauth2.specs.Exchanges.{known}
use Rattle.oidc_oauth2_requests.specs.FormRequests.{SeenFormRequest}
use Rattle.oidc_oauth2_requests.specs.RequestRuns.{RanForStep}
use Rattle.oidc_device.specs.Types.{device_types}
use Rattle.oidc_device.specs.Token.{tokens_read}
use Rattle.oidc_device.proofs.Mapped.{endpoint_of}
use Rattle.oidc_device.proofs.Polls as polls
use Rattle.oidc_device.proofs.Called.{blamed_by_poll}
use Rattle.oidc_device.proofs.login.polled.Goals as goal

pub returns-clause-ran : goal.returns-clause-ran
returns-clause-ran g c = λ p is_due.
    let types = device_types g.AC.AdditionalClaims.read_of g.GC.GenderClaim.read_of g.K.JsonWebKey g.K.KeyUse.JsonWebKeyUse in
    let at = endpoint_of c.args.client.now.token_uri _ c.exchange_device_access_token-request.ensures.request in
    let old = known (g.C.SyncHttpClient.log c.args.http.now) (g.C.SyncHttpClient.script c.args.http.now) in
    let new = known (g.C.SyncHttpClient.log c.poll_once-polled.new.http) (g.C.SyncHttpClient.script c.poll_once-polled.new.http) in
    polls.stepped types c.args.client.now c.args.codes.now p c.args.now.nanosecond is_due at.0 at.1 old new c.poll_once-polled.result c.step_of_poll.result
    (subst (λ (ask : SeenFormRequest). RanForStep ask old new (tokens_read types ask.reading) c.poll_once-polled.result) at.2 c.poll_once-polled.ensures.ran)
    c.step_of_poll.ensures.gives c.step_of_poll.ensures.memory

pub returns-clause-blamed : goal.returns-clause-blamed
returns-clause-blamed g c = blamed_by_poll c.poll_once-polled.result c.step_of_poll.result _ c.step_of_poll.ensures.fault c.poll_once-polled.ensures.blamed
