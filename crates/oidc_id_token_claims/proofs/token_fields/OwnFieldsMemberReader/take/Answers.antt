use Rattle.std.proofs.Common.{ap}
use Rattle.oidc_readers.proofs.Theorems.{both_took, kept_by}
use Rattle.oidc_id_token_claims.proofs.token_fields.OwnFieldsMemberReader.take.Goals as goal

pub returns : goal.returns
returns c = λ before start. kept_by _ _ _ _
    (λ kept i. record {
      iss = kept.0.0.0.0.0.0.0.0.0.0 i;
      aud = kept.0.0.0.0.0.0.0.0.0.1 i;
      exp = kept.0.0.0.0.0.0.0.0.1 i;
      iat = kept.0.0.0.0.0.0.0.1 i;
      auth_time = kept.0.0.0.0.0.0.1 i;
      nonce = kept.0.0.0.0.0.1 i;
      acr = kept.0.0.0.0.1 i;
      amr = kept.0.0.0.1 i;
      azp = kept.0.0.1 i;
      at_hash = kept.0.1 i;
      c_hash = kept.1 i;
    })
    (both_took _ _ _ _ _ _ _ c.and-10.ensures
    (both_took _ _ _ _ _ _ _ c.and-9.ensures
    (both_took _ _ _ _ _ _ _ c.and-8.ensures
    (both_took _ _ _ _ _ _ _ c.and-7.ensures
    (both_took _ _ _ _ _ _ _ c.and-6.ensures
    (both_took _ _ _ _ _ _ _ c.and-5.ensures
    (both_took _ _ _ _ _ _ _ c.and-4.ensures
    (both_took _ _ _ _ _ _ _ c.and-3.ensures
    (both_took _ _ _ _ _ _ _ c.and-2.ensures
    (both_took _ _ _ _ _ _ _ c.and.ensures
    (c.take_under.ensures before (ap (λ r. r.iss) start))
    (c.take_under-2.ensures before (ap (λ r. r.aud) start)))
    (c.take_under-3.ensures before (ap (λ r. r.exp) start)))
    (c.take_under-4.ensures before (ap (λ r. r.iat) start)))
    (c.take_under-5.ensures before (ap (λ r. r.auth_time) start)))
    (c.take_under-6.ensures before (ap (λ r. r.nonce) start)))
    (c.take_under-7.ensures before (ap (λ r. r.acr) start)))
    (c.take_under-8.ensures before (ap (λ r. r.amr) start)))
    (c.take_under-9.ensures before (ap (λ r. r.azp) start)))
    (c.take_under-10.ensures before (ap (λ r. r.at_hash) start)))
    (c.take_under-11.ensures before (ap (λ r. r.c_hash) start)))
