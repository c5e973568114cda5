-- Requests to a provider's logout, their pairs and their URLs (OpenID Connect RP-Initiated Logout 1.0 section 2).
use Rattle.std.specs.Prelude.{ℕ, List, [], ◌∷◌, Option, None, option_map, codes}
use Rattle.url.specs.Parts.{Parts}
use Rattle.oidc_types.specs.{TextAndUrl}
use Rattle.oidc_user_info.specs.QueryPairs.{given_pairs, spaced_if, extended}

pub record SeenLogout : Type 0 where
  pub endpoint : TextAndUrl
  -- the text of the ID token
  pub id_token_hint : Option (List ℕ)
  pub logout_hint : Option (List ℕ)
  pub client_id : Option (List ℕ)
  pub post_logout_redirect_uri : Option TextAndUrl
  pub state : Option (List ℕ)
  pub ui_locales : List (List ℕ)

-- a request to this endpoint that says nothing
abbrev pub new_logout : TextAndUrl → SeenLogout
new_logout endpoint = record {
  endpoint = endpoint;
  id_token_hint = None;
  logout_hint = None;
  client_id = None;
  post_logout_redirect_uri = None;
  state = None;
  ui_locales = [];
}

-- the names of its pairs, and their values where they are there
abbrev pub given_of : SeenLogout → List (List ℕ × Option (List ℕ))
given_of r =
    (codes "id_token_hint", r.id_token_hint)
    ∷ (codes "logout_hint", r.logout_hint)
    ∷ (codes "client_id", r.client_id)
    ∷ (codes "post_logout_redirect_uri", option_map (λ u. u.text) r.post_logout_redirect_uri)
    ∷ (codes "state", r.state)
    ∷ (codes "ui_locales", spaced_if r.ui_locales)
    ∷ []

-- all its pairs, in their order
abbrev pub logout_list : SeenLogout → List (List ℕ × List ℕ)
logout_list r = given_pairs (given_of r)

-- where a user is sent to sign out
abbrev pub logout_url : SeenLogout → Parts
logout_url r = extended r.endpoint.url (logout_list r)
