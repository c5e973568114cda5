-- the words of client registration, and of the grants and claims that it speaks of
use Rattle.std.specs.Prelude.{ℕ, List, [], ◌∷◌, codes}
use Rattle.oidc_types.specs.declared.core_registration.CoreApplicationType.{CoreApplicationType}
use Rattle.oidc_types.specs.declared.core_registration.CoreApplicationType.TheVariants as application_type
use Rattle.oidc_types.specs.declared.core_registration.CoreClaimType.{CoreClaimType}
use Rattle.oidc_types.specs.declared.core_registration.CoreClaimType.TheVariants as claim_type
use Rattle.oidc_types.specs.declared.core_registration.CoreClientAuthMethod.{CoreClientAuthMethod}
use Rattle.oidc_types.specs.declared.core_registration.CoreClientAuthMethod.TheVariants as auth_method
use Rattle.oidc_types.specs.declared.core_registration.CoreGrantType.{CoreGrantType}
use Rattle.oidc_types.specs.declared.core_registration.CoreGrantType.TheVariants as grant_type
use Rattle.oidc_types.specs.declared.core_registration.CoreRegisterErrorResponseType.{CoreRegisterErrorResponseType}
use Rattle.oidc_types.specs.declared.core_registration.CoreRegisterErrorResponseType.TheVariants as register_error
use Rattle.oidc_types.specs.declared.core_registration.CoreSubjectIdentifierType.{CoreSubjectIdentifierType}
use Rattle.oidc_types.specs.declared.core_registration.CoreSubjectIdentifierType.TheVariants as subject_type

-- kinds of clients (OpenID Connect Dynamic Client Registration 1.0 section 2)
abbrev pub application_type_text : CoreApplicationType → List ℕ
application_type_text application_type.Native = codes "native"
application_type_text application_type.Web = codes "web"
application_type_text (application_type.Extension text) = text

abbrev pub application_types : List CoreApplicationType
application_types = application_type.Native ∷ application_type.Web ∷ []

-- ways in which a claim comes (OpenID Connect Core 1.0 section 5.6)
abbrev pub claim_type_text : CoreClaimType → List ℕ
claim_type_text claim_type.Aggregated = codes "aggregated"
claim_type_text claim_type.Distributed = codes "distributed"
claim_type_text claim_type.Normal = codes "normal"
claim_type_text (claim_type.Extension text) = text

abbrev pub claim_types : List CoreClaimType
claim_types = claim_type.Aggregated ∷ claim_type.Distributed ∷ claim_type.Normal ∷ []

-- ways in which a client authenticates at the token endpoint (OpenID Connect Core 1.0 section 9)
abbrev pub auth_method_text : CoreClientAuthMethod → List ℕ
auth_method_text auth_method.ClientSecretBasic = codes "client_secret_basic"
auth_method_text auth_method.ClientSecretJwt = codes "client_secret_jwt"
auth_method_text auth_method.ClientSecretPost = codes "client_secret_post"
auth_method_text auth_method.PrivateKeyJwt = codes "private_key_jwt"
auth_method_text auth_method.None = codes "none"
auth_method_text (auth_method.Extension text) = text

abbrev pub auth_methods : List CoreClientAuthMethod
auth_methods = auth_method.ClientSecretBasic ∷ auth_method.ClientSecretJwt ∷
    auth_method.ClientSecretPost ∷ auth_method.PrivateKeyJwt ∷
    auth_method.None ∷ []

-- kinds of grants for a token
abbrev pub grant_type_text : CoreGrantType → List ℕ
grant_type_text grant_type.AuthorizationCode = codes "authorization_code"
grant_type_text grant_type.ClientCredentials = codes "client_credentials"
grant_type_text grant_type.DeviceCode = codes "urn:ietf:params:oauth:grant-type:device_code"
grant_type_text grant_type.Implicit = codes "implicit"
grant_type_text grant_type.JwtBearer = codes "urn:ietf:params:oauth:grant-type:jwt-bearer"
grant_type_text grant_type.Password = codes "password"
grant_type_text grant_type.RefreshToken = codes "refresh_token"
grant_type_text (grant_type.Extension text) = text

abbrev pub grant_types : List CoreGrantType
grant_types = grant_type.AuthorizationCode ∷ grant_type.ClientCredentials ∷
    grant_type.DeviceCode ∷ grant_type.Implicit ∷ grant_type.JwtBearer ∷ grant_type.Password ∷
    grant_type.RefreshToken ∷ []

-- errors of the registration endpoint (OpenID Connect Dynamic Client Registration 1.0 section 3.3)
abbrev pub register_error_text : CoreRegisterErrorResponseType → List ℕ
register_error_text register_error.InvalidClientMetadata = codes "invalid_client_metadata"
register_error_text register_error.InvalidRedirectUri = codes "invalid_redirect_uri"
register_error_text (register_error.Extension text) = text

abbrev pub register_errors : List CoreRegisterErrorResponseType
register_errors = register_error.InvalidClientMetadata ∷ register_error.InvalidRedirectUri ∷ []

-- kinds of names for end users (OpenID Connect Core 1.0 section 8)
abbrev pub subject_type_text : CoreSubjectIdentifierType → List ℕ
subject_type_text subject_type.Pairwise = codes "pairwise"
subject_type_text subject_type.Public = codes "public"
subject_type_text (subject_type.Extension text) = text

abbrev pub subject_types : List CoreSubjectIdentifierType
subject_types = subject_type.Pairwise ∷ subject_type.Public ∷ []
