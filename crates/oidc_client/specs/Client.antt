-- What contracts see of a client of one provider (RFC 6749 sections 2.2 and 3, OpenID Connect Core 1.0 sections
-- 3.1.3.7 and 5.3), and when its type is right about its endpoints.
use Rattle.std.specs.Prelude.{◌≡◌, ℕ, List, [], ◌∷◌, Bool, true, false, Option, None, Some, option_map, if◌then◌else◌, codes}
use Rattle.url.specs.Parts.{serialize}
use Rattle.oidc_members.specs.declared.reading.Reading.{Reading}
use Rattle.oidc_members.specs.Seen.{strict}
use Rattle.oidc_types.specs.{TextAndUrl}
use Rattle.oidc_types.specs.declared.endpoint.Presence.{Presence}
use Rattle.oidc_types.specs.declared.endpoint.Presence.TheVariants.{Set, NotSet, MaybeSet}
use Rattle.oidc_oauth2.specs.declared.client_auth.AuthType.{AuthType}
use Rattle.oidc_oauth2.specs.declared.client_auth.AuthType.TheVariants.{BasicAuth}
use Rattle.oidc_oauth2.specs.declared.client_auth.ConfigurationError.{ConfigurationError}
use Rattle.oidc_oauth2.specs.declared.client_auth.ConfigurationError.TheVariants.{MissingUrl, InsecureUrl}
use Rattle.oidc_oauth2.specs.ClientAuth.{SeenClientAuth}
use Rattle.oidc_oauth2.specs.Requests.{SeenCodeRequest}
use Rattle.oidc_oauth2_requests.specs.FormRequests as form
use Rattle.oidc_oauth2_requests.specs.FormRequests.{SeenFormRequest, SeenIntrospectionRequest}
use Rattle.oidc_tokens.specs.Signatures.{SeenVerifier}
use Rattle.oidc_tokens.specs.UserInfoVerification.{SeenUserInfoVerifier}
use Rattle.oidc_user_info.specs.InfoRequests.{SeenInfoRequest}
use Rattle.oidc_user_info.specs.declared.requests.UserInfoResponseType.TheVariants.{Json}

-- ---- a client

-- the client's own values, what is known of its provider, and the endpoints that are set
pub record SeenClient (Key Algorithm : Type 0) : Type 0 where
  pub client_id : List ℕ
  pub client_secret : Option (List ℕ)
  -- how the secret is sent
  pub auth_type : AuthType
  pub redirect_uri : Option TextAndUrl
  -- whether its requests ask for the scope `openid`
  pub openid_scope : Bool
  -- how it reads ID tokens and user info
  pub reading : Reading
  -- whether the ID token of a hybrid answer has to have the hash of its code
  pub code_hash_required : Bool
  pub issuer : TextAndUrl
  pub keys : List Key
  -- the signing algorithms that it allows, where there is a list
  pub allowed : Option (List Algorithm)
  pub auth_uri : Option TextAndUrl
  pub device_authorization_url : Option TextAndUrl
  pub introspection_url : Option TextAndUrl
  pub revocation_url : Option TextAndUrl
  pub token_uri : Option TextAndUrl
  pub user_info_url : Option TextAndUrl

-- a client of whose provider nothing but issuer and keys is known; it reads strictly, and demands no hash of a code
abbrev pub new_client : {Key Algorithm : Type 0} → List ℕ → TextAndUrl → List Key → SeenClient Key Algorithm
new_client client_id issuer keys = record {
  client_id = client_id;
  client_secret = None;
  auth_type = BasicAuth;
  redirect_uri = None;
  openid_scope = true;
  reading = strict;
  code_hash_required = false;
  issuer = issuer;
  keys = keys;
  allowed = None;
  auth_uri = None;
  device_authorization_url = None;
  introspection_url = None;
  revocation_url = None;
  token_uri = None;
  user_info_url = None;
}

-- an endpoint is set as its state says
abbrev pub fits : {A : Type 0} → Presence → Option A → Bool
fits Set None = false
fits Set (Some url) = true
fits NotSet None = true
fits NotSet (Some url) = false
fits MaybeSet url = true

-- ---- what it asks of ID tokens and of user info

-- The key of its secret is that of the secret's bytes.
abbrev pub verifier_of : {Key Algorithm : Type 0} → (List ℕ → Key) → SeenClient Key Algorithm
    → SeenVerifier Key Algorithm
verifier_of symmetric_of client = record {
  client_id = client.client_id;
  issuer = client.issuer;
  secret_key = option_map symmetric_of client.client_secret;
  keys = client.keys;
  allowed = client.allowed;
}

-- Issuer and audience of a signed answer have to match, where it isn't asked otherwise.
abbrev pub user_info_verifier_of : {Key Algorithm : Type 0} → SeenClient Key Algorithm → Option (List ℕ)
    → SeenUserInfoVerifier Key
user_info_verifier_of client subject = record {
  client_id = client.client_id;
  issuer = client.issuer;
  keys = client.keys;
  expected_subject = subject;
  issuer_match = true;
  audience_match = true;
}

-- ---- the requests that it makes

-- how it names itself to an endpoint
abbrev pub client_auth_of : {Key Algorithm : Type 0} → SeenClient Key Algorithm → SeenClientAuth
client_auth_of client = record {
  client_id = client.client_id;
  client_secret = client.client_secret;
  auth_type = client.auth_type;
}

-- the exchange of a code at this endpoint, with the client's redirect, where it has one, under the client's reading
abbrev pub code_request_at : {Key Algorithm : Type 0} → SeenClient Key Algorithm → List ℕ → TextAndUrl
    → SeenCodeRequest
code_request_at client code endpoint = record {
  address = serialize endpoint.url;
  client = client_auth_of client;
  code = code;
  verifier = None;
  redirect_uri = option_map (λ u. u.text) client.redirect_uri;
  extra = [];
  reading = client.reading;
}

-- the request with these pairs of its own at this endpoint, without scopes and further pairs
abbrev pub form_request_at : {Key Algorithm : Type 0} → SeenClient Key Algorithm → form.Pairs → TextAndUrl
    → SeenFormRequest
form_request_at client own endpoint = form.new_request (serialize endpoint.url) (client_auth_of client) own

-- the same for tokens, under the client's reading
abbrev pub token_request_at : {Key Algorithm : Type 0} → SeenClient Key Algorithm → form.Pairs → TextAndUrl
    → SeenFormRequest
token_request_at client own endpoint = record (form_request_at client own endpoint) { reading = client.reading }

-- the scopes of a new request that has any
abbrev pub first_scopes : {Key Algorithm : Type 0} → SeenClient Key Algorithm → List (List ℕ)
first_scopes client = if client.openid_scope then codes "openid" ∷ [] else []

-- the request for the codes of a device at this endpoint, for the scope `openid` where the client asks for it
abbrev pub device_request_at : {Key Algorithm : Type 0} → SeenClient Key Algorithm → TextAndUrl → SeenFormRequest
device_request_at client endpoint =
    record (form_request_at client form.device_pairs endpoint) { scopes = first_scopes client }

-- the request about a token at this endpoint, without a hint
abbrev pub introspection_at : {Key Algorithm : Type 0} → SeenClient Key Algorithm → List ℕ → TextAndUrl
    → SeenIntrospectionRequest
introspection_at client token endpoint =
    record { token = token; hint = None; form = form_request_at client [] endpoint }

-- a URL whose scheme is `https`
abbrev pub IsSecure : TextAndUrl → Type 0
IsSecure endpoint = endpoint.url.scheme ≡ codes "https"

-- the request for user info at this endpoint, for answers that needn't be signed, under the client's reading
abbrev pub info_request_at : {Key Algorithm : Type 0} → SeenClient Key Algorithm → List ℕ → Option (List ℕ)
    → TextAndUrl → SeenInfoRequest Key
info_request_at client token subject endpoint = record {
  address = endpoint.text;
  access_token = token;
  response_type = Json;
  demand = record {
    signed = false;
    reading = client.reading;
    verifier = user_info_verifier_of client subject;
  };
}

-- the error says that the endpoint of this name isn't set
abbrev pub IsMissing : List ℕ → ConfigurationError → Type 0
IsMissing name (MissingUrl endpoint) = endpoint.now ≡ name
IsMissing name (InsecureUrl endpoint) = ⊥

-- the error says that the endpoint of this name isn't `https`
abbrev pub IsInsecure : List ℕ → ConfigurationError → Type 0
IsInsecure name (MissingUrl endpoint) = ⊥
IsInsecure name (InsecureUrl endpoint) = endpoint.now ≡ name
