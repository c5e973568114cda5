-- When a store of logins goes on with another client of the same provider, as where the provider's keys have changed (OpenID
-- Connect Core 1.0 section 10.1.1).
use Rattle.std.specs.Prelude.{◌≡◌, ◌≢◌, ℕ, List, Bool, true, false, not, Option, None, Some, option_map, Result, Ok, Err}
use Rattle.std.specs.Str.{bytes_eq}
use Rattle.oidc_types.specs.{TextAndUrl}
use Rattle.oidc_oauth2.specs.Replies.{◌>>◌, ◌when◌}
use Rattle.oidc_login.specs.Types.{SeenLoginClient}
use Rattle.oidc_login.specs.declared.errors.ChangeError.{ChangeError}
use Rattle.oidc_login.specs.declared.errors.ChangeError.TheVariants as change

-- the text of an endpoint, where there is one
abbrev pub text_of : Option TextAndUrl → Option (List ℕ)
text_of endpoint = option_map (λ url. url.text) endpoint

-- there are two endpoints of one text, or none
abbrev pub has_same_text : Option TextAndUrl → Option TextAndUrl → Bool
has_same_text None None = true
has_same_text None (Some new) = false
has_same_text (Some old) None = false
has_same_text (Some old) (Some new) = bytes_eq old.text new.text

module _ {Key : Type 0} (old new : SeenLoginClient Key) where
  -- what differs first, if anything does
  unfoldable pub difference_of : Result (Unit {0}) ChangeError
  difference_of = do
    change.ClientId when not (bytes_eq old.client_id new.client_id)
    change.Issuer when not (bytes_eq old.issuer.text new.issuer.text)
    change.AuthorizationEndpoint when not (has_same_text old.auth_uri new.auth_uri)
    change.TokenEndpoint when not (has_same_text old.token_uri new.token_uri)
    change.UserInfoEndpoint when not (has_same_text old.user_info_url new.user_info_url)
    Ok tt

  -- They are one client of one provider, by the texts of both. Keys and algorithms, the secret and how it is sent, the
  -- redirect, the scope `openid`, the reading and what is demanded of a code's hash may be others.
  pub record IsSameClient : Type 0 where
    pub client_id : old.client_id ≡ new.client_id
    pub issuer : old.issuer.text ≡ new.issuer.text
    pub auth_uri : text_of old.auth_uri ≡ text_of new.auth_uri
    pub token_uri : text_of old.token_uri ≡ text_of new.token_uri
    pub user_info_url : text_of old.user_info_url ≡ text_of new.user_info_url

  -- why a store doesn't go on with the new one
  abbrev pub Differs : ChangeError → Type 0
  Differs change.ClientId = old.client_id ≢ new.client_id
  Differs change.Issuer = old.issuer.text ≢ new.issuer.text
  Differs change.AuthorizationEndpoint = text_of old.auth_uri ≢ text_of new.auth_uri
  Differs change.TokenEndpoint = text_of old.token_uri ≢ text_of new.token_uri
  Differs change.UserInfoEndpoint = text_of old.user_info_url ≢ text_of new.user_info_url

-- the error of a result that gives the store back beside it
abbrev pub seen_change : {A B : Type 0} → Result A (ChangeError × B) → Result (Unit {0}) ChangeError
seen_change (Ok changed) = Ok tt
seen_change (Err refused) = Err refused.0
