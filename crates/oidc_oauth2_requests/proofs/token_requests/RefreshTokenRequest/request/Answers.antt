use Rattle.std.proofs.Common.{ap, ◌∙◌}
use Rattle.oidc_oauth2_requests.specs.FormRequests.{SeenFormRequest}
use Rattle.oidc_oauth2_requests.proofs.token_requests.RefreshTokenRequest.request.Goals as goal

pub returns-clause-ran : goal.returns-clause-ran
returns-clause-ran g c = c.tokens_over.ensures.ran _ c.prepare-made.ensures.prepared _ (c.reading.ensures ∙ ap (λ (r : SeenFormRequest). r.reading) c.self.view_is)
