-- What a begin answers, and what it leaves of the store: RFC 6749 section 4.1.1, RFC 7636 sections 4.1 to 4.3,
-- OpenID Connect Core 1.0 section 3.1.2.1.
use Rattle.std.specs.Prelude.{◌≡◌, ℕ, List, length, Bool, true, false, not, ◌&&◌, nat_lt, Option, Some, is_some, Result, Ok, Err}
use Rattle.std.specs.FinMap as finite
use Rattle.std.specs.Str.{bytes_eq}
use Rattle.url.specs.Parts.{Parts, serialize}
use Rattle.oidc_types.specs.CoreAuthorization.{auth_display_text, auth_prompt_text, response_type_text}
use Rattle.oidc_types.specs.declared.core_authorization.CoreAuthDisplay.{CoreAuthDisplay}
use Rattle.oidc_types.specs.declared.core_authorization.CoreAuthPrompt.{CoreAuthPrompt}
use Rattle.oidc_types.specs.declared.core_authorization.CoreResponseType.{CoreResponseType}
use Rattle.oidc_oauth2.specs.Pkce.{is_verifier, s256}
use Rattle.oidc_oauth2.specs.Replies.{◌>>=◌, ◌>>◌, ◌when◌}
use Rattle.oidc_client.specs.Authorization.{SeenAuthorization, Flow, Code, Implicit, Hybrid, auth_url}
use Rattle.oidc_login.specs.Types.{SeenLoginClient}
use Rattle.oidc_login.specs.Logins.{Pending}
use Rattle.oidc_login.specs.declared.types.UserInfoDemand.{UserInfoDemand}
use Rattle.oidc_login.specs.declared.errors.BeginError.{BeginError}
use Rattle.oidc_login.specs.declared.errors.BeginError.TheVariants as begin

-- ---- the request

-- an authorization request, in the words of the standards
abbrev pub LoginRequest : Type 0
LoginRequest = SeenAuthorization CoreAuthDisplay CoreAuthPrompt CoreResponseType

-- its flow is that of a code; a hybrid flow isn't, whatever its types
abbrev pub is_code_flow : Flow CoreResponseType → Bool
is_code_flow Code = true
is_code_flow (Implicit token) = false
is_code_flow (Hybrid types) = false

-- where its user is sent, with this challenge in the place of any other
abbrev pub url_with : LoginRequest → List ℕ → Parts
url_with request challenge =
    auth_url auth_display_text auth_prompt_text response_type_text (record request { challenge = Some challenge })

abbrev pub is_long_url : Parts → Bool
is_long_url url = nat_lt 1_048_576 (length (serialize url))

-- what a begin is handed
pub record Begin : Type 0 where
  pub request : LoginRequest
  pub verifier : List ℕ
  -- what is demanded of user info, where it is asked for
  pub user_info : Option UserInfoDemand

abbrev pub begin_of : LoginRequest → List ℕ → Option UserInfoDemand → Begin
begin_of request verifier user_info = record { request = request; verifier = verifier; user_info = user_info }

-- ---- the rows

-- what a begin answers, or its refusal (that of a callback is a `Meant` of its own, in `Callback.antt`)
abbrev pub Meant : Type 0 → Type 0
Meant A = Result A BeginError

-- those on request and verifier, of which comes the challenge; of the store's client they take the ID, and whether
-- it has an endpoint for user info
unfoldable pub challenge_or_refusal : List ℕ → Bool → Pending → Begin → Meant (List ℕ)
challenge_or_refusal client_id has_endpoint pending b = do
  begin.Flow when not (is_code_flow b.request.flow)
  begin.ClientId when not (bytes_eq b.request.client_id client_id)
  begin.Verifier when not (is_verifier b.verifier)
  begin.UserInfoEndpoint when is_some b.user_info && not has_endpoint
  begin.Pending when finite.contains_key pending b.request.state
  Ok (s256 b.verifier)

-- that on the URL
unfoldable pub url_or_refusal : LoginRequest → List ℕ → Meant Parts
url_or_refusal request challenge = do
  begin.TooLong when is_long_url (url_with request challenge)
  Ok (url_with request challenge)

abbrev pub reply_by : List ℕ → Bool → Pending → Begin → Meant Parts
reply_by client_id has_endpoint pending b = do
  challenge ← challenge_or_refusal client_id has_endpoint pending b
  url_or_refusal b.request challenge

-- the URL that a begin answers, or its refusal
abbrev pub begin_reply : {Key : Type 0} → SeenLoginClient Key → Pending → Begin → Meant Parts
begin_reply client pending b = reply_by client.client_id (is_some client.user_info_url) pending b

-- a reply is the one that is meant, or want of memory
abbrev pub Begins : {A : Type 0} → Meant A → Meant A → Type 0
Begins (Err begin.Memory) meant = Unit {0}
Begins reply meant = reply ≡ meant

-- ---- the store

-- the store with the login of a begin: its redirect is the request's own, or else that of the client that made
-- the request
abbrev pub with_login : Pending → Begin → Pending
with_login pending b =
    finite.insert pending b.request.state (record {
      nonce = b.request.nonce;
      redirect_uri = b.request.redirect_uri;
      verifier = b.verifier;
      user_info = b.user_info;
    })

-- the store after a begin
abbrev pub begin_store : Meant Parts → Pending → Begin → Pending
begin_store (Ok url) pending b = with_login pending b
begin_store (Err error) pending b = pending
