-- Authorization requests and their pairs: RFC 6749 sections 4.1.1 and 3.3, RFC 7636 section 4.3, OpenID
-- Connect Core 1.0 sections 3.1.2.1, 3.2.2.1 and 3.3.2.1, OAuth 2.0 Multiple Response Type Encoding Practices
-- section 3.
use Rattle.std.specs.Prelude.{◌≡◌, ℕ, List, [], ◌∷◌, ◌++◌, map, Bool, true, false, Option, None, Some, unwrap_or, option_map, if◌then◌else◌, All, decimal, codes}
use Rattle.url.specs.Parts.{Parts}
use Rattle.oidc_pairs.specs.Pairs.{values, values_in}
use Rattle.oidc_types.specs.{TextAndUrl}
use Rattle.oidc_oauth2.specs.TokenResponse.{whole_seconds}
use Rattle.oidc_user_info.specs.QueryPairs.{given_pairs, spaced, spaced_if, extended}
use Rattle.oidc_client.specs.Client.{SeenClient}
use Rattle.oidc_client.specs.declared.authorization.AuthenticationFlow.{AuthenticationFlow}
use Rattle.oidc_client.specs.declared.authorization.AuthenticationFlow.TheVariants as flow

-- ---- flows

-- what a request asks for: a code; an ID token, and an access token too where that is true; or these types
pub data Flow (ResponseType : Type 0) : Type 0 where
  Code : Flow ResponseType
  Implicit : Bool → Flow ResponseType
  Hybrid : List ResponseType → Flow ResponseType

abbrev pub seen_flow : {ResponseType : Type 0} → AuthenticationFlow ResponseType → Flow ResponseType
seen_flow flow.AuthorizationCode = Code
seen_flow (flow.Implicit token) = Implicit token
seen_flow (flow.Hybrid types) = Hybrid types.items

-- its response type
abbrev pub response_type_of : {ResponseType : Type 0} → (ResponseType → List ℕ) → Flow ResponseType → List ℕ
response_type_of type_text Code = codes "code"
response_type_of type_text (Implicit true) = codes "id_token token"
response_type_of type_text (Implicit false) = codes "id_token"
response_type_of type_text (Hybrid types) = spaced (map type_text types)

-- ---- requests

pub record SeenAuthorization (Display Prompt ResponseType : Type 0) : Type 0 where
  pub endpoint : TextAndUrl
  pub flow : Flow ResponseType
  pub client_id : List ℕ
  pub state : List ℕ
  pub nonce : List ℕ
  -- the challenge, by the method S256
  pub challenge : Option (List ℕ)
  -- its own redirect, else that of the client that made it
  pub redirect_uri : Option TextAndUrl
  pub scopes : List (List ℕ)
  pub extra : List (List ℕ × List ℕ)
  pub acr_values : List (List ℕ)
  pub claims_locales : List (List ℕ)
  pub display : Option Display
  pub id_token_hint : Option (List ℕ)
  pub login_hint : Option (List ℕ)
  -- in nanoseconds
  pub max_age : Option ℕ
  pub prompts : List Prompt
  pub ui_locales : List (List ℕ)

-- a request of this client for these, which asks for the scope `openid` where the client does, and for nothing
-- else
abbrev pub new_request : {Key Algorithm Display Prompt ResponseType : Type 0} → SeenClient Key Algorithm
    → TextAndUrl → Flow ResponseType → List ℕ → List ℕ → SeenAuthorization Display Prompt ResponseType
new_request client endpoint flow state nonce = record {
  endpoint = endpoint;
  flow = flow;
  client_id = client.client_id;
  state = state;
  nonce = nonce;
  challenge = None;
  redirect_uri = client.redirect_uri;
  scopes = if client.openid_scope then codes "openid" ∷ [] else [];
  extra = [];
  acr_values = [];
  claims_locales = [];
  display = None;
  id_token_hint = None;
  login_hint = None;
  max_age = None;
  prompts = [];
  ui_locales = [];
}

-- ---- the pairs

-- a text that isn't empty
abbrev pub text_if : List ℕ → Option (List ℕ)
text_if [] = None
text_if (b ∷ text) = Some (b ∷ text)

module _ {Display Prompt ResponseType : Type 0} (display_text : Display → List ℕ) (prompt_text : Prompt → List ℕ)
    (type_text : ResponseType → List ℕ) where
  -- those that may be absent, before the pairs that a caller adds
  abbrev pub given_before_extra : SeenAuthorization Display Prompt ResponseType → List (List ℕ × Option (List ℕ))
  given_before_extra r =
      (codes "code_challenge", r.challenge)
      ∷ (codes "code_challenge_method", option_map (λ challenge. codes "S256") r.challenge)
      ∷ (codes "redirect_uri", option_map (λ u. u.text) r.redirect_uri)
      ∷ (codes "scope", text_if (spaced r.scopes))
      ∷ []

  -- those behind them
  abbrev pub given_after_extra : SeenAuthorization Display Prompt ResponseType → List (List ℕ × Option (List ℕ))
  given_after_extra r =
      (codes "acr_values", spaced_if r.acr_values)
      ∷ (codes "claims_locales", spaced_if r.claims_locales)
      ∷ (codes "display", option_map display_text r.display)
      ∷ (codes "id_token_hint", r.id_token_hint)
      ∷ (codes "login_hint", r.login_hint)
      ∷ (codes "max_age", option_map (λ age. decimal (whole_seconds age)) r.max_age)
      ∷ (codes "prompt", spaced_if (map prompt_text r.prompts))
      ∷ (codes "ui_locales", spaced_if r.ui_locales)
      ∷ []

  abbrev pub pairs_before_extra : SeenAuthorization Display Prompt ResponseType → List (List ℕ × List ℕ)
  pairs_before_extra r =
      (codes "response_type", response_type_of type_text r.flow)
      ∷ (codes "client_id", r.client_id)
      ∷ (codes "state", r.state)
      ∷ given_pairs (given_before_extra r)

  abbrev pub pairs_after_extra : SeenAuthorization Display Prompt ResponseType → List (List ℕ × List ℕ)
  pairs_after_extra r = (codes "nonce", r.nonce) ∷ given_pairs (given_after_extra r)

  -- all pairs, in their order
  unfoldable pub auth_list : SeenAuthorization Display Prompt ResponseType → List (List ℕ × List ℕ)
  auth_list r = pairs_before_extra r ++ r.extra ++ pairs_after_extra r

  -- where a user is sent to sign in
  abbrev pub auth_url : SeenAuthorization Display Prompt ResponseType → Parts
  auth_url r = extended r.endpoint.url (auth_list r)

-- ---- client, challenge, state, nonce and redirect in the URL

-- the names that a request itself gives to pairs
abbrev pub managed_names : List (List ℕ)
managed_names =
    codes "response_type" ∷ codes "client_id" ∷ codes "state" ∷ codes "code_challenge"
    ∷ codes "code_challenge_method" ∷ codes "redirect_uri" ∷ codes "scope" ∷ codes "nonce"
    ∷ codes "acr_values" ∷ codes "claims_locales" ∷ codes "display" ∷ codes "id_token_hint"
    ∷ codes "login_hint" ∷ codes "max_age" ∷ codes "prompt" ∷ codes "ui_locales" ∷ []

-- the values that a URL's query has for a name
abbrev pub query_values : Parts → List ℕ → List (List ℕ)
query_values url name = values (unwrap_or url.query []) name

-- one, where there is one
abbrev pub at_most_one : {A : Type 0} → Option A → List A
at_most_one None = []
at_most_one (Some value) = value ∷ []

-- Among a URL's pairs is this one.
abbrev pub HasPair : Parts → List ℕ → List ℕ → Type 0
HasPair url name value =
    (before : List (List ℕ)) × (after : List (List ℕ)) × (query_values url name ≡ before ++ value ∷ after)

-- Among them are those of this challenge, by the method S256.
pub record HasChallenge (challenge : List ℕ) (url : Parts) : Type 0 where
  pub code_challenge : HasPair url (codes "code_challenge") challenge
  pub code_challenge_method : HasPair url (codes "code_challenge_method") (codes "S256")

module _ {Display Prompt ResponseType : Type 0} where
  -- Neither the endpoint's query nor a pair that a caller added has such a name.
  pub record IsUnmanagedBeside (r : SeenAuthorization Display Prompt ResponseType) : Type 0 where
    pub query : All (λ name. query_values r.endpoint.url name ≡ []) managed_names
    pub extra : All (λ name. values_in r.extra name ≡ []) managed_names

  -- Client ID, state, nonce and any redirect stand in the URL once each, and are the request's.
  pub record StandOnce (r : SeenAuthorization Display Prompt ResponseType) (url : Parts) : Type 0 where
    pub client_id : query_values url (codes "client_id") ≡ r.client_id ∷ []
    pub state : query_values url (codes "state") ≡ r.state ∷ []
    pub nonce : query_values url (codes "nonce") ≡ r.nonce ∷ []
    pub redirect_uri : query_values url (codes "redirect_uri") ≡ at_most_one (option_map (λ u. u.text) r.redirect_uri)
