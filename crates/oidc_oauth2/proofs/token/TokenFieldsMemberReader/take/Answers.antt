use Rattle.std.proofs.Common.{ap}
use Rattle.oidc_readers.proofs.Theorems.{both_took, kept_by}
use Rattle.oidc_oauth2.proofs.token.TokenFieldsMemberReader.take.Goals as goal

pub returns : goal.returns
returns c = λ before start. kept_by _ _ _ _
    (λ kept i. record {
      access_token = kept.0.0.0.0 i;
      token_type = kept.0.0.0.1 i;
      expires_in = kept.0.0.1 i;
      refresh_token = kept.0.1 i;
      scope = kept.1 i;
    })
    (both_took _ _ _ _ _ _ _ c.and-4.ensures
    (both_took _ _ _ _ _ _ _ c.and-3.ensures
    (both_took _ _ _ _ _ _ _ c.and-2.ensures
    (both_took _ _ _ _ _ _ _ c.and.ensures
    (c.take.ensures before (ap (λ r. r.access_token) start))
    (c.take-2.ensures before (ap (λ r. r.token_type) start)))
    (c.take-3.ensures before (ap (λ r. r.expires_in) start)))
    (c.take-4.ensures before (ap (λ r. r.refresh_token) start)))
    (c.take-5.ensures before (ap (λ r. r.scope) start)))
