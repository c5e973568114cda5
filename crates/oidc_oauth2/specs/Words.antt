-- The errors that a token endpoint, also while a device waits, and a revocation endpoint answer, and the
-- types of tokens, each with its text.
use Rattle.std.specs.Prelude.{◌≡◌, ◌⊎◌, ℕ, List, [], ◌∷◌, codes}
use Rattle.std.specs.Str.{str_to_ascii_lowercase}
use Rattle.oidc_types.specs.Vocabulary.{word_or}
use Rattle.oidc_oauth2.specs.declared.error_types.CoreErrorResponseType.{CoreErrorResponseType}
use Rattle.oidc_oauth2.specs.declared.error_types.CoreErrorResponseType.TheVariants as error
use Rattle.oidc_oauth2.specs.declared.error_types.DeviceCodeErrorResponseType.{DeviceCodeErrorResponseType}
use Rattle.oidc_oauth2.specs.declared.error_types.DeviceCodeErrorResponseType.TheVariants as device_error
use Rattle.oidc_oauth2.specs.declared.error_types.RevocationErrorResponseType.{RevocationErrorResponseType}
use Rattle.oidc_oauth2.specs.declared.error_types.RevocationErrorResponseType.TheVariants as revocation_error
use Rattle.oidc_oauth2.specs.declared.token_type.CoreTokenType.{CoreTokenType}
use Rattle.oidc_oauth2.specs.declared.token_type.CoreTokenType.TheVariants as token_type

-- errors of a token endpoint (RFC 6749 section 5.2)
abbrev pub error_text : CoreErrorResponseType → List ℕ
error_text error.InvalidClient = codes "invalid_client"
error_text error.InvalidGrant = codes "invalid_grant"
error_text error.InvalidRequest = codes "invalid_request"
error_text error.InvalidScope = codes "invalid_scope"
error_text error.UnauthorizedClient = codes "unauthorized_client"
error_text error.UnsupportedGrantType = codes "unsupported_grant_type"
error_text (error.Extension text) = text

abbrev pub errors : List CoreErrorResponseType
errors =
    error.InvalidClient ∷ error.InvalidGrant ∷ error.InvalidRequest ∷ error.InvalidScope ∷ error.UnauthorizedClient ∷ error.UnsupportedGrantType ∷ []

abbrev pub error_of : List ℕ → CoreErrorResponseType
error_of = word_or error_text errors error.Extension

-- errors while a device waits for its user (RFC 8628 section 3.5); any other text is one of a token endpoint
abbrev pub device_error_text : DeviceCodeErrorResponseType → List ℕ
device_error_text device_error.AuthorizationPending = codes "authorization_pending"
device_error_text device_error.SlowDown = codes "slow_down"
device_error_text device_error.AccessDenied = codes "access_denied"
device_error_text device_error.ExpiredToken = codes "expired_token"
device_error_text (device_error.Basic basic) = error_text basic

abbrev pub device_errors : List DeviceCodeErrorResponseType
device_errors = device_error.AuthorizationPending ∷ device_error.SlowDown ∷ device_error.AccessDenied ∷ device_error.ExpiredToken ∷ []

abbrev pub device_error_of : List ℕ → DeviceCodeErrorResponseType
device_error_of = word_or device_error_text device_errors (λ text. device_error.Basic (error_of text))

-- Each word of its own is read back from its text. (A word that `Basic` keeps may have the text of one.)
abbrev pub DeviceErrorsReadBack : Type 0
DeviceErrorsReadBack =
    (word : DeviceCodeErrorResponseType)
    → ((basic : CoreErrorResponseType) × (word ≡ device_error.Basic basic)) ⊎ (device_error_of (device_error_text word) ≡ word)

-- errors of a revocation endpoint (RFC 7009 section 2.2.1); any other text is one of a token endpoint
abbrev pub revocation_error_text : RevocationErrorResponseType → List ℕ
revocation_error_text revocation_error.UnsupportedTokenType = codes "unsupported_token_type"
revocation_error_text (revocation_error.Basic basic) = error_text basic

abbrev pub revocation_errors : List RevocationErrorResponseType
revocation_errors = revocation_error.UnsupportedTokenType ∷ []

abbrev pub revocation_error_of : List ℕ → RevocationErrorResponseType
revocation_error_of = word_or revocation_error_text revocation_errors (λ text. revocation_error.Basic (error_of text))

-- Each word of its own is read back from its text.
abbrev pub RevocationErrorsReadBack : Type 0
RevocationErrorsReadBack =
    (word : RevocationErrorResponseType)
    → ((basic : CoreErrorResponseType) × (word ≡ revocation_error.Basic basic)) ⊎ (revocation_error_of (revocation_error_text word) ≡ word)

-- types of tokens, in upper or lower case (RFC 6749 sections 5.1 and 7.1)
abbrev pub token_type_text : CoreTokenType → List ℕ
token_type_text token_type.Bearer = codes "bearer"
token_type_text token_type.Mac = codes "mac"
token_type_text (token_type.Extension text) = text

abbrev pub token_types : List CoreTokenType
token_types = token_type.Bearer ∷ token_type.Mac ∷ []

-- the type of a text that is brought to lower case first
unfoldable pub token_type_of : List ℕ → CoreTokenType
token_type_of text = word_or token_type_text token_types token_type.Extension (str_to_ascii_lowercase text)
