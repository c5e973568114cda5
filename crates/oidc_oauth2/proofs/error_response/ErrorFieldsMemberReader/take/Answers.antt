use Rattle.std.proofs.Common.{ap}
use Rattle.oidc_readers.proofs.Theorems.{both_took, kept_by}
use Rattle.oidc_oauth2.proofs.error_response.ErrorFieldsMemberReader.take.Goals as goal

pub returns : goal.returns
returns c = λ before start. kept_by _ _ _ _
    (λ kept i. record {
      error = kept.0.0 i;
      error_description = kept.0.1 i;
      error_uri = kept.1 i;
    })
    (both_took _ _ _ _ _ _ _ c.and-2.ensures
    (both_took _ _ _ _ _ _ _ c.and.ensures
    (c.take.ensures before (ap (λ r. r.error) start))
    (c.take-2.ensures before (ap (λ r. r.error_description) start)))
    (c.take-3.ensures before (ap (λ r. r.error_uri) start)))
