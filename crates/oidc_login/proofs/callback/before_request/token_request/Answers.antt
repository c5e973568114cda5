use Rattle.std.proofs.Common.{◌≡◌, ℕ, List, Option, None, Some, Result, sym, ap, subst, ◌∙◌}
use Rattle.std.specs.Prelude.{IsSomeAnd, option_map, option_and_then}
use Rattle.std.specs.Cow.{cow_str_bytes}
use Rattle.oidc_types.specs.{TextAndUrl}
use Rattle.oidc_oauth2.specs.Messages.{SeenRequest}
use Rattle.oidc_oauth2.specs.Requests.{SeenCodeRequest, code_request, Prepares}
use Rattle.oidc_oauth2.specs.declared.requests.PrepareError.{PrepareError}
use Rattle.oidc_client.specs.Client.{code_request_at}
use Rattle.oidc_login.specs.Types.{SeenLoginClient}
use Rattle.oidc_login.specs.Logins.{SeenLogin}
use Rattle.oidc_login.specs.BeforeRequest.{request_to, token_request}
use Rattle.oidc_login.proofs.callback.before_request.token_request.Goals as goal

-- the client's request, with this verifier and redirect, is the login's where they are its own
prepared_for : {Key : Type 0} (client : SeenLoginClient Key) (login : SeenLogin) (code : List ℕ) (result : Result SeenRequest PrepareError) (endpoint : Option TextAndUrl)
    → (own verified sent : SeenCodeRequest) (verifier : List ℕ) (redirect : Option (List ℕ))
    → IsSomeAnd endpoint (λ e. own ≡ code_request_at client code e) → verified ≡ record own { verifier = Some verifier } → sent ≡ record verified { redirect_uri = redirect }
    → verifier ≡ login.verifier → redirect ≡ option_map (λ u. u.text) login.redirect_uri → Prepares result (code_request sent)
    → Prepares result (option_and_then (λ e. code_request (request_to e client login code)) endpoint)
prepared_for client login code result None own verified sent verifier redirect made with_verifier with_redirect own_verifier own_redirect prepared = absurd made
prepared_for client login code result (Some e) own verified sent verifier redirect made with_verifier with_redirect own_verifier own_redirect prepared =
    let same : sent ≡ request_to e client login code =
    with_redirect
    ∙ ap (λ (r : SeenCodeRequest). record r { redirect_uri = redirect }) with_verifier
    ∙ (λ i. record (made i) { verifier = Some (own_verifier i); redirect_uri = own_redirect i }) in
    subst (λ (r : SeenCodeRequest). Prepares result (code_request r)) same prepared

pub returns-in-None : goal.returns-in-None
unfolding token_request
returns-in-None g c =
    let code = c.new-code.ensures.kept ∙ c.in_ok-into_owned.ensures.ok in
    let own = ap (λ (l : SeenLogin). l.verifier) c.login.view_is in
    let redirect = ap (λ (l : SeenLogin). option_map (λ (u : TextAndUrl). u.text) l.redirect_uri) c.login.view_is in
    prepared_for c.args.client.now c.args.login.now (cow_str_bytes c.args.code) c.http_request_of.result c.args.client.now.token_uri _ _ _ _ _
    (rw code at c.in-Ok.ensures.request) c.set_pkce_verifier-request.ensures.set c.without_redirect_uri.ensures.set (c.in_ok-verifier.ensures.copy ∙ own)
    (sym (ap (option_map (λ (u : TextAndUrl). u.text)) c.in-None.is) ∙ redirect) c.http_request_of.ensures

pub returns-in-Some : goal.returns-in-Some
unfolding token_request
returns-in-Some g c =
    let code = c.new-code.ensures.kept ∙ c.in_ok-into_owned.ensures.ok in
    let own = ap (λ (l : SeenLogin). l.verifier) c.login.view_is in
    let redirect = ap (λ (l : SeenLogin). option_map (λ (u : TextAndUrl). u.text) l.redirect_uri) c.login.view_is in
    prepared_for c.args.client.now c.args.login.now (cow_str_bytes c.args.code) c.http_request_of-in-Some.result c.args.client.now.token_uri _ _ _ _ _
    (rw code at c.in-Ok.ensures.request) c.set_pkce_verifier-request.ensures.set c.set_redirect_uri.ensures.set (c.in_ok-verifier.ensures.copy ∙ own)
    (sym (ap (option_map (λ (u : TextAndUrl). u.text)) c.in-Some.is) ∙ redirect) c.http_request_of-in-Some.ensures
