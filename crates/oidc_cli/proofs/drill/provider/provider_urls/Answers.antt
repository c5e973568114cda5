use Rattle.std.specs.Prelude.{codes}
use Rattle.std.proofs.Common.{Some, ap, ◌∙◌}
use Rattle.oidc_cli.specs.Drill.{issuer, client_line}
use Rattle.oidc_cli.proofs.DrillTexts.{issuer_taken, auth_taken, token_taken, user_info_taken, some_taken, came_as}
use Rattle.oidc_cli.proofs.drill.provider.provider_urls.Goals as goal

pub url_at-requires : goal.url_at-requires
url_at-requires c = record { taken = some_taken _ issuer issuer_taken }

pub url_at-requires-2 : goal.url_at-requires-2
url_at-requires-2 c = record { taken = some_taken _ client_line.provider.auth auth_taken }

pub url_at-requires-3 : goal.url_at-requires-3
url_at-requires-3 c = record { taken = some_taken _ client_line.provider.token token_taken }

pub url_at-requires-4 : goal.url_at-requires-4
url_at-requires-4 c = record { taken = some_taken _ _ user_info_taken }

pub returns : goal.returns
returns c =
    let all = c.in_ok-all in
    let token = c.in_ok-with_token in
    let auth = c.in_ok-with_auth in
    let same_issuer = ap (λ x. x.0.0.0) all.ensures.first ∙ ap (λ x. x.0.0) token.ensures.first ∙ ap (λ x. x.0) auth.ensures.first ∙ c.in_ok-issuers.ensures.first ∙ c.in_ok-issuer.ensures in
    let same_auth = ap (λ x. x.0.1) all.ensures.first ∙ ap (λ x. x.1) token.ensures.first
    ∙ came_as c.url_at-2.result (codes "https://example/authorize") auth.with_auth.1 _ auth.ensures.second auth_taken c.url_at-2.ensures in
    let same_token = ap (λ x. x.1) all.ensures.first
    ∙ came_as c.url_at-3.result (codes "https://example/token") token.with_token.1 _ token.ensures.second token_taken c.url_at-3.ensures in
    let same_user_info = came_as c.url_at-4.result (codes "https://example/userinfo") all.all.1 _ all.ensures.second user_info_taken c.url_at-4.ensures in
    λ i. record { issuer = same_issuer i; auth = same_auth i; token = same_token i; user_info = Some (same_user_info i) }
