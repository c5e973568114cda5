-- What single functions of a callback answer, between the steps of its table (`Callback.antt`). No public clause cites this.
use Rattle.std.specs.Prelude.{◌≡◌, ℕ, ℤ, List, true, Option, None, Some, Result, Ok, IfErr}
use Rattle.oidc_types.specs.declared.signing_error.SigningError.{SigningError}
use Rattle.oidc_types.specs.declared.signing_error.SigningError.TheVariants as signing
use Rattle.oidc_oauth2.specs.Messages.{SeenResponse, SeenAnswer}
use Rattle.oidc_oauth2.specs.Replies.{◌>>=◌, ◌>>◌, ◌when◌, ◌for◌, ◌or◌, ◌or_as◌}
use Rattle.oidc_oauth2.specs.TokenAnswers.{is_over_long}
use Rattle.oidc_oauth2.specs.ErrorResponse.{SeenError}
use Rattle.oidc_oauth2.specs.declared.error_types.CoreErrorResponseType.{CoreErrorResponseType}
use Rattle.oidc_oauth2.specs.declared.token_answers.OtherCause.TheVariants as other
use Rattle.oidc_oauth2.specs.declared.token_answers.RequestTokenError.{RequestTokenError}
use Rattle.oidc_oauth2.specs.declared.token_answers.RequestTokenError.TheVariants as token_error
use Rattle.oidc_tokens.specs.declared.verification.refusals.ClaimsVerificationError.{ClaimsVerificationError}
use Rattle.oidc_tokens.specs.declared.verification.refusals.ClaimsVerificationError.TheVariants as check
use Rattle.oidc_user_info.specs.UserInfoClaims.{SeenUserInfoClaims}
use Rattle.oidc_members.specs.declared.reading.Reading.{Reading}
use Rattle.oidc_user_info.specs.InfoAnswers.{Demand, info_answer}
use Rattle.oidc_user_info.specs.InfoRequests.{SeenInfoRequest, info_request}
use Rattle.oidc_user_info.specs.InfoRuns.{unmade}
use Rattle.oidc_user_info.specs.declared.errors.UserInfoError.{UserInfoError}
use Rattle.oidc_user_info.specs.declared.errors.UserInfoError.TheVariants as info
use Rattle.oidc_login.specs.Types.{SeenLoginClient, SiteTypes}
use Rattle.oidc_login.specs.Logins.{SeenLogin, Pending}
use Rattle.oidc_login.specs.BeforeRequest.{error_in, code_in, login_named_by, token_request}
use Rattle.oidc_login.specs.Token.{SeenIdToken, Tokens, tokens_or_refusal, verifier_of, failure_for, claimed_hash, hash_beside, refusal_of_claim, claims_another}
use Rattle.oidc_login.specs.SignedIn.{SeenSignedIn, signed_by}
use Rattle.oidc_login.specs.Errors.{faulted}
use Rattle.oidc_login.specs.Callback.{Meant, SeenTaken, SeenPreparedInfo, LoginRun, user_of_answer, user_with_info, replied, ◌passed_to◌, ◌answered_by◌, demand_run}
use Rattle.oidc_login.specs.declared.errors.TooLong.TheVariants as place
use Rattle.oidc_login.specs.declared.errors.LoginError.{LoginError}
use Rattle.oidc_login.specs.declared.errors.LoginError.TheVariants as login
use Rattle.oidc_login.specs.declared.errors.LoginError.TheVariants.{TooLong, State, Provider, Callback, Token, NoIdToken, Claims, Signing, TokenHash, UserInfo}

-- a fault only where the answer was one
abbrev pub Faults : {A E : Type 0} → SeenAnswer → Result A (LoginError E) → Type 0
Faults answer result = IfErr result (λ e. faulted e ≡ true → answer ≡ None)

-- the refusal of a login by that of its token request
abbrev pub of_token : {E : Type 0} → RequestTokenError E (SeenError CoreErrorResponseType)
    → LoginError E
of_token (token_error.TooLong body) = login.TooLong place.TokenAnswer
of_token token_error.Memory = login.Memory true
of_token e = login.Token e

-- the refusal of a login by that of the checks of its ID token
abbrev pub of_check : {E : Type 0} → ClaimsVerificationError → LoginError E
of_check check.Memory = login.Memory true
of_check error = login.Claims error

-- the refusal of a login by that of its user info request
abbrev pub of_info : {E : Type 0} → UserInfoError E → LoginError E
of_info (info.TooLong body) = login.TooLong place.UserInfoAnswer
of_info info.Memory = login.Memory true
of_info e = login.UserInfo e

-- a refusal of a hash is the one that is meant, or want of memory
abbrev pub RefusesAs : Option SigningError → SigningError → Type 0
RefusesAs meant signing.Memory = Unit {0}
RefusesAs meant refusal = meant ≡ Some refusal

-- ---- rows of the table, those of one function at a time

-- those on the pairs of a query
unfoldable pub taken_login_by : {Key : Type 0} → SeenLoginClient Key → Pending → List (List ℕ × List ℕ) → Meant SeenTaken
taken_login_by client pending query = do
  login ← login_named_by pending query or State
  Provider for error_in query
  code ← code_in query or Callback
  request ← token_request client login code or Token (token_error.Other other.Uri)
  Ok (record { login = login; request = request })

-- those on the hash that an ID token claims of the access token beside it
abbrev pub checked_hash : Option (List ℕ) → Result (List ℕ) SigningError → Meant (Unit {0})
checked_hash claim hash = do
  Signing for refusal_of_claim claim hash
  TokenHash when claims_another claim hash

module _ {AC GC Key Use : Type 0} (types : SiteTypes AC GC Key Use) where
  -- those on the response to the token request, with the ID token under a reading
  unfoldable pub tokens_of : Reading → SeenResponse → Meant (Tokens AC GC)
  tokens_of reading response = do
    TooLong place.TokenAnswer when is_over_long response.body
    tokens_or_refusal types reading response or_as Token

  -- those on the ID token, which came beside this access token
  unfoldable pub accepted_token : SeenLoginClient Key → ℤ → SeenLogin → SeenIdToken AC GC → List ℕ → Meant (Unit {0})
  accepted_token client now login token access_token = do
    Claims for failure_for types client login.nonce now token
    checked_hash (claimed_hash token) (hash_beside types (verifier_of types client) token access_token)

  -- those on the tokens
  unfoldable pub user_of_tokens : SeenLoginClient Key → ℤ → SeenLogin → Tokens AC GC → Meant (SeenSignedIn AC GC)
  user_of_tokens client now login tokens = do
    token ← tokens.extra_fields.id_token or NoIdToken
    accepted_token client now login token tokens.access_token
    Ok (signed_by token tokens)

  -- those on the response to the user info request
  unfoldable pub info_of : Demand Key → SeenResponse → Meant (SeenUserInfoClaims AC GC)
  info_of demand response = do
    TooLong place.UserInfoAnswer when is_over_long response.body
    info_answer types demand response or_as UserInfo

-- those on the user info request itself
abbrev pub prepared_by : {Key : Type 0} → SeenInfoRequest Key → Meant (SeenPreparedInfo Key)
prepared_by ask = do
  request ← info_request ask or_as (λ e. UserInfo (unmade e))
  Ok (record { ask = ask; request = request })

-- tokens whose ID token, where there is one, passes all rows
abbrev pub IsPassed : {AC GC Key Use : Type 0} → SiteTypes AC GC Key Use → SeenLoginClient Key → ℤ → SeenLogin
    → Tokens AC GC → Type 0
IsPassed {AC} {GC} types client now login tokens =
    (token : SeenIdToken AC GC) → tokens.extra_fields.id_token ≡ Some token
    → user_of_tokens types client now login tokens ≡ Ok (signed_by token tokens)

-- ---- what follows a step, by what it gave

module _ {AC GC Key Use : Type 0} (types : SiteTypes AC GC Key Use) where
  abbrev pub prepared_run : SeenSignedIn AC GC → List SeenAnswer → Meant (SeenPreparedInfo Key) → LoginRun (SeenSignedIn AC GC)
  prepared_run user answers given =
      (given passed_to λ prepared. prepared.request answered_by λ answer. replied (user_with_info types prepared.ask.demand user answer)) answers

  abbrev pub taken_run : SeenLoginClient Key → ℤ → List SeenAnswer → Meant SeenTaken → LoginRun (SeenSignedIn AC GC)
  taken_run client now answers given =
      (given passed_to λ taken.
      taken.request answered_by λ answer.
      user_of_answer types client now taken.login answer passed_to λ user.
      demand_run types client taken.login.user_info user) answers
