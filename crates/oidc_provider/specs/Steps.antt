-- What single functions answer, between the rows of the tables. No public clause cites this.
use Rattle.std.specs.Prelude.{◌≡◌, ℕ, List, not, Option, option_and_then, Result, Ok, Err, codes}
use Rattle.std.specs.Str.{bytes_eq}
use Rattle.oidc_pairs.specs.Pairs.{pairs}
use Rattle.http_header.specs.FieldValue.{is_visible_text}
use Rattle.oidc_oauth2.specs.Replies.{◌>>=◌, ◌>>◌, ◌when◌, ◌or◌}
use Rattle.oidc_provider.specs.Settings.{registered}
use Rattle.oidc_provider.specs.Grants.{SeenGrant, SeenGrants, has_code, has_token, with_grant}
use Rattle.oidc_provider.specs.Values.{Pairs, only, says}
use Rattle.oidc_provider.specs.Authorization.{Asked, AskedLogin, Allowed, login_of, authorization, callback_pairs, callback_query}
use Rattle.oidc_provider.specs.Issuing.{IsGranted}
use Rattle.oidc_provider.specs.Provider.{SeenProvider}
use Rattle.oidc_id_token_claims.specs.IdTokenClaims.{SeenIdTokenClaims}
use Rattle.oidc_user_info.specs.UserInfoClaims.{SeenUserInfoClaims}
use Rattle.serde_json.specs.Data.{Data}
use Rattle.oidc_members.specs.Seen.{SeenMember, OutSeen}
use Rattle.oidc_members.specs.declared.refusal.Refusal.{Refusal}
use Rattle.oidc_provider.specs.declared.settings.ProviderSettings.{ProviderSettings}
use Rattle.oidc_provider.specs.declared.settings.Registration.{Registration}
use Rattle.oidc_provider.specs.declared.errors.AuthorizeError.{AuthorizeError}
use Rattle.oidc_provider.specs.declared.errors.AuthorizeError.TheVariants.{Redirect, Request, Subject, CodeUsed, TokenUsed, TokenText, Memory}

-- ---- authorization

abbrev pub asked_by : Pairs → List ℕ → List ℕ → List ℕ → List ℕ → Asked
asked_by query subject info_subject code token =
    record { query = query; subject = subject; info_subject = info_subject; code = code; token = token }

abbrev pub client_among : List Registration → Pairs → Option Registration
client_among registrations query = option_and_then (registered registrations) (only query (codes "client_id"))

abbrev pub login_or_refusal : Pairs → Result AskedLogin AuthorizeError
login_or_refusal query = login_of query or Request

abbrev pub new_or_refusal : SeenGrants → Asked → Result (Unit {0}) AuthorizeError
new_or_refusal grants a = do
  Subject when not (bytes_eq a.subject a.info_subject)
  CodeUsed when has_code grants a.code
  TokenUsed when has_token grants a.token
  TokenText when not (is_visible_text a.token)

-- the rows behind the client
abbrev pub granted_login : SeenGrants → Registration → Asked → Result AskedLogin AuthorizeError
granted_login grants client a = do
  Redirect when not (says a.query (codes "redirect_uri") client.redirect.text)
  login ← login_or_refusal a.query
  new_or_refusal grants a
  Ok login

-- what is answered to this client
abbrev pub client_reply : SeenGrants → Registration → Asked → Result (List ℕ) AuthorizeError
client_reply grants client a = do
  login ← granted_login grants client a
  Ok (callback_query a.code login.state)

-- a result of which the only error is want of memory
abbrev pub or_memory : {A E : Type 0} → Result A E → Result A AuthorizeError
or_memory (Ok x) = Ok x
or_memory (Err e) = Err Memory

-- ---- what is kept

abbrev pub allowed_to : Registration → AskedLogin → Allowed
allowed_to client login = record { client = client; login = login }

-- one more grant, of what this client is allowed, and the query that names it
pub record KeepsGrant {AC GC : Type 0} (additional : List SeenMember → Result AC Refusal) (gender : SeenMember → Result GC Refusal)
    (additional_out : AC → List OutSeen) (gender_data : GC → Data) (settings : ProviderSettings) (allowed : Allowed)
    (code token : List ℕ) (claims : SeenIdTokenClaims AC GC) (user_info : SeenUserInfoClaims AC GC) (old new : SeenGrants)
    (query : List ℕ) : Type 0 where
  pub grant : SeenGrant
  pub granted : IsGranted additional gender additional_out gender_data settings allowed code token claims user_info grant
  pub kept : new ≡ with_grant old grant
  pub own_query : query ≡ callback_query code allowed.login.state
  pub named : pairs query ≡ callback_pairs code allowed.login.state

-- the same, where this client asks
pub record KeepsOfClient {AC GC : Type 0} (additional : List SeenMember → Result AC Refusal) (gender : SeenMember → Result GC Refusal)
    (additional_out : AC → List OutSeen) (gender_data : GC → Data) (settings : ProviderSettings) (client : Registration)
    (claims : SeenIdTokenClaims AC GC) (user_info : SeenUserInfoClaims AC GC) (asked : Asked) (old new : SeenGrants)
    (query : List ℕ) : Type 0 where
  pub login : AskedLogin
  pub was_granted : granted_login old client asked ≡ Ok login
  pub keeps : KeepsGrant additional gender additional_out gender_data settings (allowed_to client login)
      asked.code asked.token claims user_info old new query

-- one more grant, of what is asked, and the query that names it
pub record KeepsGrants {AC GC : Type 0} (additional : List SeenMember → Result AC Refusal) (gender : SeenMember → Result GC Refusal)
    (additional_out : AC → List OutSeen) (gender_data : GC → Data) (claims : SeenIdTokenClaims AC GC)
    (user_info : SeenUserInfoClaims AC GC) (asked : Asked) (p : SeenProvider) (new : SeenGrants)
    (query : List ℕ) : Type 0 where
  pub allowed : Allowed
  pub was_allowed : authorization p asked ≡ Ok allowed
  pub keeps : KeepsGrant additional gender additional_out gender_data p.settings allowed asked.code asked.token claims user_info p.grants new query
