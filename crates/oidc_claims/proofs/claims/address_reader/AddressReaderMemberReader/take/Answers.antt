use Rattle.std.proofs.Common.{ap}
use Rattle.oidc_readers.proofs.Theorems.{both_took, kept_by, named_took}
use Rattle.oidc_claims.proofs.claims.address_reader.AddressReaderMemberReader.take.Goals as goal

pub returns : goal.returns
returns c = λ before start. kept_by _ _ _ _
    (λ kept i. record {
      formatted = kept.0.0.0.0.0 i;
      street_address = kept.0.0.0.0.1 i;
      locality = kept.0.0.0.1 i;
      region = kept.0.0.1 i;
      postal_code = kept.0.1 i;
      country = kept.1 i;
    })
    (both_took _ _ _ _ _ _ _ c.and-5.ensures
    (both_took _ _ _ _ _ _ _ c.and-4.ensures
    (both_took _ _ _ _ _ _ _ c.and-3.ensures
    (both_took _ _ _ _ _ _ _ c.and-2.ensures
    (both_took _ _ _ _ _ _ _ c.and.ensures
    (named_took _ _ _ _ _ before _ _ c.name.ensures (c.take.ensures before) (ap (λ r. r.formatted) start))
    (named_took _ _ _ _ _ before _ _ c.name-2.ensures (c.take-2.ensures before) (ap (λ r. r.street_address) start)))
    (named_took _ _ _ _ _ before _ _ c.name-3.ensures (c.take-3.ensures before) (ap (λ r. r.locality) start)))
    (named_took _ _ _ _ _ before _ _ c.name-4.ensures (c.take-4.ensures before) (ap (λ r. r.region) start)))
    (named_took _ _ _ _ _ before _ _ c.name-5.ensures (c.take-5.ensures before) (ap (λ r. r.postal_code) start)))
    (named_took _ _ _ _ _ before _ _ c.name-6.ensures (c.take-6.ensures before) (ap (λ r. r.country) start)))
