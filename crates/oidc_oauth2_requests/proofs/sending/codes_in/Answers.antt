use Rattle.std.proofs.Common.{rules}
use Rattle.oidc_oauth2.specs.Messages.{seen_response}
use Rattle.oidc_oauth2.specs.DeviceResponse.{device_of}
use Rattle.oidc_oauth2.proofs.Theorems.{record_refused, record_read}
use Rattle.oidc_oauth2_requests.proofs.sending.codes_in.Goals as goal

pub returns-in_err-members : goal.returns-in_err-members
returns-in_err-members g c =
    record_refused g.TE.ErrorResponse.read_of (device_of g.EF.ExtraDeviceAuthorizationFields.read_of) (seen_response c.args.response) _ _ (search rules) c.in_err-members.ensures.object

pub returns : goal.returns
returns g c =
    record_read g.TE.ErrorResponse.read_of (device_of g.EF.ExtraDeviceAuthorizationFields.read_of) (seen_response c.args.response) _ _ c.in_ok-members.ensures.object (c.record_or_refusal.ensures.record _ c.read.ensures.response)
