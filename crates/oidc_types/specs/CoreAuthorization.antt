-- the words of the authorization endpoint
use Rattle.std.specs.Prelude.{ℕ, List, [], ◌∷◌, codes}
use Rattle.oidc_types.specs.declared.core_authorization.CoreAuthDisplay.{CoreAuthDisplay}
use Rattle.oidc_types.specs.declared.core_authorization.CoreAuthDisplay.TheVariants as auth_display
use Rattle.oidc_types.specs.declared.core_authorization.CoreAuthPrompt.{CoreAuthPrompt}
use Rattle.oidc_types.specs.declared.core_authorization.CoreAuthPrompt.TheVariants as auth_prompt
use Rattle.oidc_types.specs.declared.core_authorization.CoreResponseMode.{CoreResponseMode}
use Rattle.oidc_types.specs.declared.core_authorization.CoreResponseMode.TheVariants as response_mode
use Rattle.oidc_types.specs.declared.core_authorization.CoreResponseType.{CoreResponseType}
use Rattle.oidc_types.specs.declared.core_authorization.CoreResponseType.TheVariants as response_type
use Rattle.oidc_types.specs.declared.core_authorization.CoreAuthErrorResponseType.{CoreAuthErrorResponseType}
use Rattle.oidc_types.specs.declared.core_authorization.CoreAuthErrorResponseType.TheVariants as auth_error

-- ways in which the provider shows its pages (OpenID Connect Core 1.0 section 3.1.2.1, `display`)
abbrev pub auth_display_text : CoreAuthDisplay → List ℕ
auth_display_text auth_display.Page = codes "page"
auth_display_text auth_display.Popup = codes "popup"
auth_display_text auth_display.Touch = codes "touch"
auth_display_text auth_display.Wap = codes "wap"
auth_display_text (auth_display.Extension text) = text

abbrev pub auth_displays : List CoreAuthDisplay
auth_displays = auth_display.Page ∷ auth_display.Popup ∷ auth_display.Touch ∷ auth_display.Wap ∷ []

-- what the provider asks the end user for (OpenID Connect Core 1.0 section 3.1.2.1, `prompt`)
abbrev pub auth_prompt_text : CoreAuthPrompt → List ℕ
auth_prompt_text auth_prompt.None = codes "none"
auth_prompt_text auth_prompt.Login = codes "login"
auth_prompt_text auth_prompt.Consent = codes "consent"
auth_prompt_text auth_prompt.SelectAccount = codes "select_account"
auth_prompt_text (auth_prompt.Extension text) = text

abbrev pub auth_prompts : List CoreAuthPrompt
auth_prompts = auth_prompt.None ∷ auth_prompt.Login ∷ auth_prompt.Consent ∷
    auth_prompt.SelectAccount ∷ []

-- ways in which the authorization response comes (OAuth 2.0 Multiple Response Type Encoding
-- Practices section 2.1)
abbrev pub response_mode_text : CoreResponseMode → List ℕ
response_mode_text response_mode.Query = codes "query"
response_mode_text response_mode.Fragment = codes "fragment"
response_mode_text response_mode.FormPost = codes "form_post"
response_mode_text (response_mode.Extension text) = text

abbrev pub response_modes : List CoreResponseMode
response_modes = response_mode.Query ∷ response_mode.Fragment ∷ response_mode.FormPost ∷ []

-- what the authorization endpoint is asked for (OAuth 2.0 Multiple Response Type Encoding
-- Practices sections 3 to 5)
abbrev pub response_type_text : CoreResponseType → List ℕ
response_type_text response_type.Code = codes "code"
response_type_text response_type.IdToken = codes "id_token"
response_type_text response_type.None = codes "none"
response_type_text response_type.Token = codes "token"
response_type_text (response_type.Extension text) = text

abbrev pub response_types : List CoreResponseType
response_types = response_type.Code ∷ response_type.IdToken ∷ response_type.None ∷
    response_type.Token ∷ []

-- errors of the authorization endpoint (RFC 6749 section 4.1.2.1, OpenID Connect Core 1.0 section
-- 3.1.2.6)
abbrev pub auth_error_text : CoreAuthErrorResponseType → List ℕ
auth_error_text auth_error.AccessDenied = codes "access_denied"
auth_error_text auth_error.AccountSelectionRequired = codes "account_selection_required"
auth_error_text auth_error.ConsentRequired = codes "consent_required"
auth_error_text auth_error.InteractionRequired = codes "interaction_required"
auth_error_text auth_error.InvalidRequest = codes "invalid_request"
auth_error_text auth_error.InvalidRequestObject = codes "invalid_request_object"
auth_error_text auth_error.InvalidRequestUri = codes "invalid_request_uri"
auth_error_text auth_error.InvalidScope = codes "invalid_scope"
auth_error_text auth_error.LoginRequired = codes "login_required"
auth_error_text auth_error.RegistrationNotSupported = codes "registration_not_supported"
auth_error_text auth_error.RequestNotSupported = codes "request_not_supported"
auth_error_text auth_error.RequestUriNotSupported = codes "request_uri_not_supported"
auth_error_text auth_error.ServerError = codes "server_error"
auth_error_text auth_error.TemporarilyUnavailable = codes "temporarily_unavailable"
auth_error_text auth_error.UnauthorizedClient = codes "unauthorized_client"
auth_error_text auth_error.UnsupportedResponseType = codes "unsupported_response_type"
auth_error_text (auth_error.Extension text) = text

abbrev pub auth_errors : List CoreAuthErrorResponseType
auth_errors = auth_error.AccessDenied ∷ auth_error.AccountSelectionRequired ∷
    auth_error.ConsentRequired ∷ auth_error.InteractionRequired ∷ auth_error.InvalidRequest ∷
    auth_error.InvalidRequestObject ∷ auth_error.InvalidRequestUri ∷ auth_error.InvalidScope ∷
    auth_error.LoginRequired ∷ auth_error.RegistrationNotSupported ∷
    auth_error.RequestNotSupported ∷ auth_error.RequestUriNotSupported ∷ auth_error.ServerError ∷
    auth_error.TemporarilyUnavailable ∷ auth_error.UnauthorizedClient ∷
    auth_error.UnsupportedResponseType ∷ []
