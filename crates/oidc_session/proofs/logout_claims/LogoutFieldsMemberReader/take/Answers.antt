use Rattle.std.proofs.Common.{ap}
use Rattle.oidc_readers.proofs.Theorems.{both_took, kept_by}
use Rattle.oidc_session.proofs.logout_claims.LogoutFieldsMemberReader.take.Goals as goal

pub returns : goal.returns
returns c = λ before start. kept_by _ _ _ _
    (λ kept i. record {
      iss = kept.0.0.0.0.0.0.0.0 i;
      aud = kept.0.0.0.0.0.0.0.1 i;
      iat = kept.0.0.0.0.0.0.1 i;
      exp = kept.0.0.0.0.0.1 i;
      jti = kept.0.0.0.0.1 i;
      events = kept.0.0.0.1 i;
      sub = kept.0.0.1 i;
      sid = kept.0.1 i;
      nonce = kept.1 i;
    })
    (both_took _ _ _ _ _ _ _ c.and-8.ensures
    (both_took _ _ _ _ _ _ _ c.and-7.ensures
    (both_took _ _ _ _ _ _ _ c.and-6.ensures
    (both_took _ _ _ _ _ _ _ c.and-5.ensures
    (both_took _ _ _ _ _ _ _ c.and-4.ensures
    (both_took _ _ _ _ _ _ _ c.and-3.ensures
    (both_took _ _ _ _ _ _ _ c.and-2.ensures
    (both_took _ _ _ _ _ _ _ c.and.ensures
    (c.take.ensures before (ap (λ r. r.iss) start))
    (c.take-2.ensures before (ap (λ r. r.aud) start)))
    (c.take-3.ensures before (ap (λ r. r.iat) start)))
    (c.take-4.ensures before (ap (λ r. r.exp) start)))
    (c.take-5.ensures before (ap (λ r. r.jti) start)))
    (c.take-6.ensures before (ap (λ r. r.events) start)))
    (c.take-7.ensures before (ap (λ r. r.sub) start)))
    (c.take-8.ensures before (ap (λ r. r.sid) start)))
    (c.take-9.ensures before (ap (λ r. r.nonce) start)))
