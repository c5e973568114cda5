-- The first login over a provider double, of literals: a client and its provider, a begin, what is granted, and who is
-- signed in.
use Rattle.std.specs.Prelude.{◌≡◌, ℕ, ℤ, pos, List, [], ◌∷◌, false, None, Some, unwrap_or, codes}
use Rattle.std.specs.Result.{result_ok}
use Rattle.std.specs.FinMap as finite
use Rattle.url.specs.Parts.{Parts}
use Rattle.url.specs.Parser.{parse_url}
use Rattle.oidc_types.specs.{TextAndUrl}
use Rattle.oidc_types.specs.declared.core_algorithms.CoreJwsSigningAlgorithm.{CoreJwsSigningAlgorithm}
use Rattle.oidc_types.specs.declared.core_algorithms.CoreJwsSigningAlgorithm.TheVariants.{HmacSha256}
use Rattle.oidc_keys.specs.CoreJwk.{SymmetricKey}
use Rattle.oidc_claims.specs.Seen.{only_subject}
use Rattle.oidc_claims.specs.declared.additional.EmptyAdditionalClaims.{EmptyAdditionalClaims}
use Rattle.oidc_id_token_claims.specs.IdTokenClaims.{SeenIdTokenClaims}
use Rattle.oidc_user_info.specs.UserInfoClaims.{SeenUserInfoClaims}
use Rattle.oidc_user_info.specs.declared.provider_metadata.EmptyAdditionalProviderMetadata.{EmptyAdditionalProviderMetadata}
use Rattle.oidc_user_info.specs.declared.requests.UserInfoResponseType.TheVariants.{Json}
use Rattle.oidc_client.specs.ProviderMetadata.{SeenProviderMetadata, client_of_provider}
use Rattle.oidc_client.specs.Authorization.{Code, new_request}
use Rattle.oidc_login.specs.Types.{SeenLoginClient}
use Rattle.oidc_login.specs.Logins.{SeenLogins}
use Rattle.oidc_login.specs.Begin.{LoginRequest, Begin, begin_of, url_with, with_login}
use Rattle.oidc_login.specs.SignedIn.{SeenSignedIn}
use Rattle.oidc_login.specs.declared.types.UserInfoDemand.{UserInfoDemand}
use Rattle.oidc_login.specs.declared.errors.LoginError.{LoginError}
use Rattle.oidc_login.specs.declared.errors.LoginError.TheVariants as login
use Rattle.oidc_provider.specs.Provider.{SeenProvider, new_provider}
use Rattle.oidc_provider.specs.SignIn.{ToIssue, to_issue}
use Rattle.oidc_provider.specs.declared.settings.ProviderSettings.{ProviderSettings}
use Rattle.oidc_provider.specs.declared.settings.Registration.{Registration}
use Rattle.oidc_provider.specs.declared.errors.AuthorizeError.{AuthorizeError}
use Rattle.oidc_provider.specs.declared.errors.AuthorizeError.TheVariants as refusal
use Rattle.oidc_provider.specs.declared.errors.SignInError.{SignInError}
use Rattle.oidc_provider.specs.declared.errors.SignInError.TheVariants.{Authorize, Login}
use Rattle.tests_of_provider.specs.declared.errors.FirstLoginError.{FirstLoginError}
use Rattle.tests_of_provider.specs.declared.errors.FirstLoginError.TheVariants.{Memory, SignIn}

-- ---- a client and its provider

abbrev no_parts : Parts
no_parts = record {
  scheme = [];
  username = [];
  password = [];
  host = None;
  port = None;
  path = [];
  query = None;
  fragment = None;
}

-- a text beside the URL that the URL Standard reads of it, where it reads one
abbrev pub address : List ℕ → TextAndUrl
address text = record { text = text; url = unwrap_or (result_ok (parse_url None text)) no_parts }

-- what the provider says of itself
unfoldable pub own_metadata : SeenProviderMetadata EmptyAdditionalProviderMetadata SymmetricKey CoreJwsSigningAlgorithm
own_metadata = record {
  issuer = address (codes "https://example");
  authorization_endpoint = address (codes "https://example/authorize");
  token_endpoint = Some (address (codes "https://example/token"));
  userinfo_endpoint = Some (address (codes "https://example/info"));
  jwks_uri = address (codes "https://example/keys");
  jwks = [];
  signing_algorithms = HmacSha256 ∷ [];
  additional_metadata = record {};
}

unfoldable pub own_client : SeenLoginClient SymmetricKey
own_client =
    record (client_of_provider own_metadata (codes "aaa") (Some (codes "bbb"))) {
      redirect_uri = Some (address (codes "https://site/back"));
    }

unfoldable pub own_settings : ProviderSettings
own_settings = record {
  issuer = address (codes "https://example");
  token = address (codes "https://example/token");
  user_info = address (codes "https://example/info");
}

unfoldable pub own_registration : Registration
own_registration =
    record { client_id = codes "aaa"; secret = codes "bbb"; redirect = address (codes "https://site/back") }

unfoldable pub own_provider : SeenProvider
own_provider = new_provider own_settings (own_registration ∷ [])

-- ---- a begin

-- a client's request for a code, with this state and nonce
abbrev pub request_for_code : SeenLoginClient SymmetricKey → List ℕ → List ℕ → LoginRequest
request_for_code client state nonce =
    new_request client (unwrap_or client.auth_uri client.issuer) Code state nonce

unfoldable pub own_request : LoginRequest
own_request = request_for_code own_client (codes "CSRF123") (codes "NONCE456")

-- verifier and challenge (RFC 7636 appendix B)
abbrev pub own_verifier : List ℕ
own_verifier = codes "dBjftJeZ4CVP-mB92K27uhbUJU1p1r_wW1gFWFOEjXk"

abbrev pub own_challenge : List ℕ
own_challenge = codes "E9Melhoa2OwvFrEMTJguCHaoeK1t8URWbuGJSstw-cM"

-- user info that may be unsigned
abbrev pub own_demand : UserInfoDemand
own_demand = record { signed = false; issuer_match = false; audience_match = false; response_type = Json }

unfoldable pub own_begin : Begin
own_begin = begin_of own_request own_verifier (Some own_demand)

unfoldable pub own_url : Parts
own_url = url_with own_request own_challenge

-- the store before it, and behind it
unfoldable pub no_logins : SeenLogins SymmetricKey
no_logins = record { client = own_client; pending = finite.empty }

unfoldable pub own_logins : SeenLogins SymmetricKey
own_logins = record { client = own_client; pending = with_login finite.empty own_begin }

-- ---- what is granted

abbrev pub OwnClaims : Type 0
OwnClaims = SeenIdTokenClaims EmptyAdditionalClaims (List ℕ)

-- the user `u1`, from second 900 to second 2000
unfoldable pub own_claims : OwnClaims
own_claims = record {
  own = record {
    issuer = address (codes "https://example");
    audiences = [];
    expiration = pos 2_000_000_000_000;
    issue_time = pos 900_000_000_000;
    auth_time = None;
    nonce = None;
    auth_context_ref = None;
    auth_method_refs = None;
    authorized_party = None;
    access_token_hash = None;
    code_hash = None;
  };
  standard_claims = only_subject (codes "u1");
  additional_claims = record {};
}

unfoldable pub own_info : SeenUserInfoClaims EmptyAdditionalClaims (List ℕ)
own_info = record {
  issuer = None;
  audiences = None;
  standard_claims = only_subject (codes "u1");
  additional_claims = record {};
}

unfoldable pub own_grant : ToIssue EmptyAdditionalClaims (List ℕ)
own_grant = to_issue own_claims own_info (codes "c1") (codes "abc")

-- the moment of the callback: second 1000
abbrev pub own_moment : ℤ
own_moment = pos 1_000_000_000_000

-- ---- what comes of it

-- the claims of the ID token: those that were handed in, with the client as audience, the begin's nonce, and the hash of the
-- access token
unfoldable pub signed_claims : OwnClaims
signed_claims = record own_claims {
  own = record own_claims.own {
    audiences = codes "aaa" ∷ [];
    nonce = Some (codes "NONCE456");
    access_token_hash = Some (codes "ungWv48Bz-pBQUDeXa4iIw");
  };
}

-- who is signed in
pub record IsFirstUser (user : SeenSignedIn EmptyAdditionalClaims (List ℕ)) : Type 0 where
  pub claims : user.id_token.payload ≡ signed_claims
  pub access_token : user.access_token ≡ codes "abc"
  pub refresh_token : user.refresh_token ≡ None
  pub user_info : user.user_info ≡ Some own_info

-- The two other ends of a login: a text is too long, or there was no memory.
abbrev pub IsEndOfCallback : {E : Type 0} → LoginError E → Type 0
IsEndOfCallback (login.TooLong at) = Unit {0}
IsEndOfCallback (login.Memory spent) = Unit {0}
IsEndOfCallback e = ⊥

abbrev pub IsEndOfAuthorize : AuthorizeError → Type 0
IsEndOfAuthorize refusal.Memory = Unit {0}
IsEndOfAuthorize e = ⊥

abbrev pub IsEnd : SignInError → Type 0
IsEnd (Authorize e) = IsEndOfAuthorize e
IsEnd (Login e) = IsEndOfCallback e

abbrev pub IsFirstEnd : FirstLoginError → Type 0
IsFirstEnd Memory = Unit {0}
IsFirstEnd (SignIn e) = IsEnd e
