use Rattle.std.proofs.Common.{ap}
use Rattle.oidc_readers.proofs.Theorems.{both_took, kept_by}
use Rattle.oidc_oauth2.proofs.device.DeviceFieldsMemberReader.take.Goals as goal

pub returns : goal.returns
returns c = λ before start. kept_by _ _ _ _
    (λ kept i. record {
      device_code = kept.0.0.0.0.0 i;
      user_code = kept.0.0.0.0.1 i;
      verification_uri = kept.0.0.0.1 i;
      expires_in = kept.0.0.1 i;
      verification_uri_complete = kept.0.1 i;
      interval = kept.1 i;
    })
    (both_took _ _ _ _ _ _ _ c.and-5.ensures
    (both_took _ _ _ _ _ _ _ c.and-4.ensures
    (both_took _ _ _ _ _ _ _ c.and-3.ensures
    (both_took _ _ _ _ _ _ _ c.and-2.ensures
    (both_took _ _ _ _ _ _ _ c.and.ensures
    (c.take.ensures before (ap (λ r. r.device_code) start))
    (c.take-2.ensures before (ap (λ r. r.user_code) start)))
    (c.take_either-uri.ensures before (ap (λ r. r.verification_uri) start)))
    (c.take-3.ensures before (ap (λ r. r.expires_in) start)))
    (c.take-complete.ensures before (ap (λ r. r.verification_uri_complete) start)))
    (c.take-4.ensures before (ap (λ r. r.interval) start)))
