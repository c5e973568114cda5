-- What contracts see of the pending logins of a client.
use Rattle.std.specs.Prelude.{◌≡◌, ℕ, List, Bool, true, false, Option, Some, is_some, refl, IsTrue}
use Rattle.std.proofs.Common.{ap}
use Rattle.std.specs.Coded.{Coded, code_by, coded_ℕ, coded_bool, coded_list, coded_option, coded×}
use Rattle.std.specs.FinMap as finite
use Rattle.std.specs.Ordering.{nat_cmp}
use Rattle.std.specs.Cmp.Lexicographic.{slice_cmp}
use Rattle.oidc_types.specs.{TextAndUrl}
use Rattle.oidc_types.specs.UrlText.{text_and_url_code}
use Rattle.oidc_oauth2.specs.Pkce.{is_verifier}
use Rattle.oidc_user_info.specs.declared.requests.UserInfoResponseType.{UserInfoResponseType}
use Rattle.oidc_user_info.specs.declared.requests.UserInfoResponseType.TheVariants.{Json, Jwt}
use Rattle.oidc_login.specs.Types.{SeenLoginClient}
use Rattle.oidc_login.specs.declared.types.UserInfoDemand.{UserInfoDemand}

-- what is kept of a login beside its state
pub record SeenLogin : Type 0 where
  pub nonce : List ℕ
  -- the redirect that the authorization request had, where it had one
  pub redirect_uri : Option TextAndUrl
  pub verifier : List ℕ
  -- what is demanded of user info, where it is asked for
  pub user_info : Option UserInfoDemand

-- the pending logins, by their states
abbrev pub Pending : Type 0
Pending = finite.FinMap (slice_cmp nat_cmp) SeenLogin

-- a client, and its pending logins
pub record SeenLogins (Key : Type 0) : Type 0 where
  pub client : SeenLoginClient Key
  pub pending : Pending

-- each pending login has a verifier of 43 to 128 bytes
abbrev pub HasVerifiers : Pending → Type 0
HasVerifiers pending =
    (state : List ℕ) (login : SeenLogin)
    → finite.get pending state ≡ Some login → IsTrue (is_verifier login.verifier)

-- user info is asked for only where there is an endpoint for it
abbrev pub HasEndpoints : Option TextAndUrl → Pending → Type 0
HasEndpoints endpoint pending =
    (state : List ℕ) (login : SeenLogin)
    → finite.get pending state ≡ Some login → IsTrue (is_some login.user_info) → IsTrue (is_some endpoint)

-- ---- how the logic stores them

abbrev pub is_jwt : UserInfoResponseType → Bool
is_jwt Json = false
is_jwt Jwt = true

abbrev pub response_type_of : Bool → UserInfoResponseType
response_type_of false = Json
response_type_of true = Jwt

pub response_type_back : (kind : UserInfoResponseType) → response_type_of (is_jwt kind) ≡ kind
response_type_back Json = refl
response_type_back Jwt = refl

abbrev pub demand_from : Bool × (Bool × (Bool × Bool)) → UserInfoDemand
demand_from p =
    record { signed = p.0; issuer_match = p.1.0; audience_match = p.1.1.0; response_type = response_type_of p.1.1.1 }

pub demand_back : (d : UserInfoDemand)
    → demand_from (d.signed, (d.issuer_match, (d.audience_match, is_jwt d.response_type))) ≡ d
demand_back d =
    ap (λ (kind : UserInfoResponseType). record d { response_type = kind }) (response_type_back d.response_type)

abbrev pub demand_code : Coded UserInfoDemand
demand_code =
    code_by (Bool × (Bool × (Bool × Bool))) (coded× coded_bool (coded× coded_bool (coded× coded_bool coded_bool)))
    (λ d. (d.signed, (d.issuer_match, (d.audience_match, is_jwt d.response_type)))) demand_from demand_back

abbrev pub seen_login_code : Coded SeenLogin
seen_login_code =
    code_by (List ℕ × (Option TextAndUrl × (List ℕ × Option UserInfoDemand)))
    (coded× (coded_list coded_ℕ) (coded× (coded_option text_and_url_code) (coded× (coded_list coded_ℕ) (coded_option demand_code))))
    (λ l. (l.nonce, (l.redirect_uri, (l.verifier, l.user_info))))
    (λ p. record { nonce = p.0; redirect_uri = p.1.0; verifier = p.1.1.0; user_info = p.1.1.1 }) (λ _. refl)

abbrev pub pending_code : Coded Pending
pending_code = finite.code (coded_list coded_ℕ) seen_login_code
