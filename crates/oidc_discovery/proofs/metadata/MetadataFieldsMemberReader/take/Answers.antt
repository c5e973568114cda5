use Rattle.std.proofs.Common.{ap}
use Rattle.oidc_readers.proofs.Theorems.{both_took, kept_by}
use Rattle.oidc_discovery.proofs.metadata.MetadataFieldsMemberReader.take.Goals as goal

pub returns : goal.returns
returns c = λ before start. kept_by _ _ _ _
    (λ kept i. record {
      issuer = kept.0.0.0.0.0.0.0.0 i;
      authorization_endpoint = kept.0.0.0.0.0.0.0.1 i;
      token_endpoint = kept.0.0.0.0.0.0.1 i;
      userinfo_endpoint = kept.0.0.0.0.0.1 i;
      jwks_uri = kept.0.0.0.0.1 i;
      signing_algorithms = kept.0.0.0.1 i;
      end_session_endpoint = kept.0.0.1 i;
      challenge_methods = kept.0.1 i;
      iss_parameter = kept.1 i;
    })
    (both_took _ _ _ _ _ _ _ c.and-8.ensures
    (both_took _ _ _ _ _ _ _ c.and-7.ensures
    (both_took _ _ _ _ _ _ _ c.and-6.ensures
    (both_took _ _ _ _ _ _ _ c.and-5.ensures
    (both_took _ _ _ _ _ _ _ c.and-4.ensures
    (both_took _ _ _ _ _ _ _ c.and-3.ensures
    (both_took _ _ _ _ _ _ _ c.and-2.ensures
    (both_took _ _ _ _ _ _ _ c.and.ensures
    (c.take.ensures before (ap (λ r. r.issuer) start))
    (c.take-2.ensures before (ap (λ r. r.authorization_endpoint) start)))
    (c.take-3.ensures before (ap (λ r. r.token_endpoint) start)))
    (c.take-4.ensures before (ap (λ r. r.userinfo_endpoint) start)))
    (c.take-5.ensures before (ap (λ r. r.jwks_uri) start)))
    (c.take-6.ensures before (ap (λ r. r.signing_algorithms) start)))
    (c.take-7.ensures before (ap (λ r. r.end_session_endpoint) start)))
    (c.take-8.ensures before (ap (λ r. r.challenge_methods) start)))
    (c.take-9.ensures before (ap (λ r. r.iss_parameter) start)))
