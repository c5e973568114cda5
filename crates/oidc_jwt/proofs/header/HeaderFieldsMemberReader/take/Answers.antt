use Rattle.std.proofs.Common.{ap}
use Rattle.oidc_readers.proofs.Theorems.{both_took, kept_by}
use Rattle.oidc_jwt.proofs.header.HeaderFieldsMemberReader.take.Goals as goal

pub returns : goal.returns
returns g c = λ before start. kept_by _ _ _ _
    (λ kept i. record {
      alg = kept.0.0.0.0 i;
      typ = kept.0.0.0.1 i;
      cty = kept.0.0.1 i;
      kid = kept.0.1 i;
      crit = kept.1 i;
    })
    (both_took _ _ _ _ _ _ _ c.and-4.ensures
    (both_took _ _ _ _ _ _ _ c.and-3.ensures
    (both_took _ _ _ _ _ _ _ c.and-2.ensures
    (both_took _ _ _ _ _ _ _ c.and.ensures
    (c.take.ensures before (ap (λ r. r.alg) start))
    (c.take-2.ensures before (ap (λ r. r.typ) start)))
    (c.take-3.ensures before (ap (λ r. r.cty) start)))
    (c.take-4.ensures before (ap (λ r. r.kid) start)))
    (c.take-5.ensures before (ap (λ r. r.crit) start)))
