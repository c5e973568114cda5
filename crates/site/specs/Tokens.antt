-- Which answers to a refresh are of a user's sign-in, and after which refusals of one the user signs in again (OpenID
-- Connect Core 1.0 section 12.2, RFC 6749 section 5.2).
use Rattle.std.specs.Prelude.{ℤ, Bool, true, false, IfSome}
use Rattle.oidc_oauth2.specs.declared.error_types.CoreErrorResponseType.{CoreErrorResponseType}
use Rattle.oidc_oauth2.specs.declared.error_types.CoreErrorResponseType.TheVariants as code
use Rattle.oidc_oauth2.specs.declared.token_answers.RequestTokenError.TheVariants as request
use Rattle.oidc.specs.Token.{verifier_of}
use Rattle.oidc_tokens.specs.Refreshed.{AcceptsRefreshed}
use Rattle.site.specs.declared.tokens.RefreshError.{RefreshError}
use Rattle.site.specs.declared.tokens.RefreshError.TheVariants.{NoRefreshToken, Request, IdToken}
use Rattle.site.specs.Types.{types, SeenClient, SeenUser, SeenAnswer}

-- An ID token in the answer, where there is one, is accepted at this moment: by what the client expects of ID tokens,
-- as one of the user's sign-in, beside the access token of the same answer.
abbrev pub IsOfSignIn : SeenClient → ℤ → SeenUser → SeenAnswer → Type 0
IsOfSignIn client now user answer =
    IfSome answer.extra_fields.id_token
    (AcceptsRefreshed types.keys (verifier_of types client) now user.id_token.payload answer.access_token)

-- The provider takes the refresh token no more, or wants what a sign-in alone gives: a word that RFC 6749 doesn't have
-- says so. The other words are about the client.
abbrev pub is_about_user : CoreErrorResponseType → Bool
is_about_user code.InvalidGrant = true
is_about_user (code.Extension word) = true
is_about_user word = false

-- The user signs in again.
abbrev pub ends_session : {E : Type 0} → RefreshError E → Bool
ends_session NoRefreshToken = true
ends_session (IdToken refusal) = true
ends_session (Request (request.ServerResponse response)) = is_about_user response.error
ends_session error = false
