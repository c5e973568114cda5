use Rattle.std.proofs.Common.{rules, ap, ◌++◌, ◌∙◌}
use Rattle.std.specs.Prelude.{codes}
use Rattle.oidc_oauth2.specs.ClientAuth.{pair_if, client_pairs}
use Rattle.oidc_oauth2.specs.Requests.{SeenCodeRequest}
use Rattle.oidc_oauth2.proofs.PairLists.{all_behind}
use Rattle.oidc_oauth2.proofs.requests.CodeTokenRequest.form.Goals as goal

pub returns : goal.returns
returns g c =
    let r = c.args.self.now in
    all_behind (codes "grant_type", codes "authorization_code") (codes "code", r.code) (pair_if (codes "code_verifier") r.verifier) (client_pairs r.client)
    (pair_if (codes "redirect_uri") r.redirect_uri) r.extra
    c.in_ok-form.form c.push.new.self c.push-2.new.self c.push_optional.new.form c.push_client.new.form c.push_optional-2.new.form c.push_all.new.form
    (search rules) (search rules) (search rules) (search rules) (search rules) (search rules)
    (c.in_ok-push_all.ensures.added ∙ ap (λ l. c.push_optional-2.new.form ++ l) (rw c.deref.ensures.value (ap (λ (v : SeenCodeRequest). v.extra) c.self.view_is)))
