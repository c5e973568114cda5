use Rattle.std.proofs.Common.{subst}
use Rattle.oidc_oauth2.specs.Exchanges.{known}
use Rattle.oidc_oauth2_requests.specs.FormRequests.{SeenFormRequest}
use Rattle.oidc_oauth2_requests.specs.RequestRuns.{RanForRecord}
use Rattle.oidc_device.specs.Logins.{error_read, codes_read}
use Rattle.oidc_device.proofs.Mapped.{endpoint_of}
use Rattle.oidc_device.proofs.Starts as starts
use Rattle.oidc_device.proofs.login.codes_for.Goals as goal

pub returns-in-Ok-clause-ran : goal.returns-in-Ok-clause-ran
returns-in-Ok-clause-ran g c = λ now.
    let at = endpoint_of c.args.client.now.device_authorization_url _ c.in-Ok.ensures.request in
    let old = known (g.C.SyncHttpClient.log c.args.http.now) (g.C.SyncHttpClient.script c.args.http.now) in
    let new = known (g.C.SyncHttpClient.log c.request-asked.new.http) (g.C.SyncHttpClient.script c.request-asked.new.http) in
    rw c.codes_of.ensures
    (starts.started c.args.client.now now at.0 at.1 old new c.request-asked.result
    (subst (λ (ask : SeenFormRequest). RanForRecord ask old new error_read codes_read c.request-asked.result) at.2 c.request-asked.ensures.ran))

pub returns-in-Ok-clause-blamed : goal.returns-in-Ok-clause-blamed
returns-in-Ok-clause-blamed g c = rw c.codes_of.ensures (starts.codes_blamed c.request-asked.result _ c.request-asked.ensures.blamed)

pub returns-in-Ok-clause-no_inner_memory : goal.returns-in-Ok-clause-no_inner_memory
returns-in-Ok-clause-no_inner_memory g c = rw c.codes_of.ensures (starts.codes_hide c.request-asked.result)

pub returns-in-Err-clause-ran : goal.returns-in-Err-clause-ran
returns-in-Err-clause-ran g c = λ now. starts.started_without c.args.client.now now _
