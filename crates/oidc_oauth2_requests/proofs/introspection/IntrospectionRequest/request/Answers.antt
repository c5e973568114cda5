use Rattle.oidc_oauth2_requests.proofs.introspection.IntrospectionRequest.request.Goals as goal

pub returns-clause-ran : goal.returns-clause-ran
returns-clause-ran g c = c.introspection_over.ensures.ran _ c.prepare-made.ensures.prepared
