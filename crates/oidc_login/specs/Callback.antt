-- The table of a callback: what it answers, a line a refusal, from the first test to the last, and what it sends (RFC 6749
-- sections 4.1.2 to 4.1.4, OpenID Connect Core 1.0 sections 3.1.3 and 5.3). Its parts have the names of the modules whose
-- steps meet them.
use Rattle.std.specs.Prelude.{ℕ, ℤ, List, [], ◌∷◌, drop, Option, None, Some, Result, Ok, Err, if◌then◌else◌}
use Rattle.std.specs.FinMap as finite
use Rattle.oidc_pairs.specs.Pairs.{pairs}
use Rattle.oidc_oauth2.specs.Messages.{SeenRequest, SeenAnswer}
use Rattle.oidc_oauth2.specs.Replies.{◌>>=◌, ◌>>◌, ◌when◌, ◌for◌, ◌or◌, ◌or_as◌}
use Rattle.oidc_oauth2.specs.Transport.{first_answer}
use Rattle.oidc_oauth2.specs.Exchanges.{Run}
use Rattle.oidc_oauth2.specs.TokenAnswers.{is_over_long}
use Rattle.oidc_oauth2.specs.declared.token_answers.OtherCause.TheVariants as other
use Rattle.oidc_oauth2.specs.declared.token_answers.RequestTokenError.TheVariants as token_error
use Rattle.oidc_user_info.specs.InfoAnswers.{Demand, info_answer}
use Rattle.oidc_user_info.specs.InfoRequests.{SeenInfoRequest, info_request}
use Rattle.oidc_user_info.specs.InfoRuns.{unmade}
use Rattle.oidc_user_info.specs.declared.errors.InfoOther.TheVariants as info_other
use Rattle.oidc_user_info.specs.declared.errors.UserInfoError.TheVariants as info_error
use Rattle.oidc_login.specs.Types.{SeenLoginClient, SiteTypes}
use Rattle.oidc_login.specs.Logins.{SeenLogin, Pending}
use Rattle.oidc_login.specs.BeforeRequest.{state_in, error_in, code_in, login_named_by, token_request}
use Rattle.oidc_login.specs.Token.{tokens_or_refusal, subject_of, failure_for, hash_refusal, has_another_hash}
use Rattle.oidc_login.specs.UserInfo.{info_ask}
use Rattle.oidc_login.specs.SignedIn.{SeenSignedIn, signed_by, with_user_info}
use Rattle.oidc_login.specs.Errors.{Error}
use Rattle.oidc_login.specs.declared.types.UserInfoDemand.{UserInfoDemand}
use Rattle.oidc_login.specs.declared.errors.TooLong.TheVariants as place
use Rattle.oidc_login.specs.declared.errors.LoginError.TheVariants.{TooLong, State, Provider, Callback, Token, NoIdToken, Claims, Signing, TokenHash, UserInfo}

-- a value, or the refusal of the first row that holds
abbrev pub Meant : Type 0 → Type 0
Meant A = Result A Error

-- What a callback starts from: a client's pending logins, and the query of a callback at a moment (nanoseconds since the
-- Unix epoch).
pub record Attempt (Key : Type 0) : Type 0 where
  pub client : SeenLoginClient Key
  pub pending : Pending
  pub query : List ℕ
  pub now : ℤ

-- ---- before_request: the login that a query names, its error, its code, and the token request

-- a login that was taken out, and its token request
pub record SeenTaken : Type 0 where
  pub login : SeenLogin
  pub request : SeenRequest

unfoldable pub taken_login : {Key : Type 0} → SeenLoginClient Key → Pending → List ℕ → Meant SeenTaken
taken_login client pending query = do
  TooLong place.Callback when is_over_long query
  login ← login_named_by pending (pairs query) or State
  Provider for error_in (pairs query)
  code ← code_in (pairs query) or Callback
  request ← token_request client login code or Token (token_error.Other other.Uri)
  Ok (record { login = login; request = request })

-- ---- token: the answer to it, the ID token, and the hash in that

unfoldable pub user_of_answer : {AC GC Key Use : Type 0} → SiteTypes AC GC Key Use → SeenLoginClient Key → ℤ → SeenLogin
    → SeenAnswer → Meant (SeenSignedIn AC GC)
user_of_answer types client now login answer = do
  response ← answer or Token (token_error.Request tt)
  TooLong place.TokenAnswer when is_over_long response.body
  tokens ← tokens_or_refusal types client.reading response or_as Token
  token ← tokens.extra_fields.id_token or NoIdToken
  Claims for failure_for types client login.nonce now token
  Signing for hash_refusal types client token tokens.access_token
  TokenHash when has_another_hash types client token tokens.access_token
  Ok (signed_by token tokens)

-- ---- user_info, where the login demands it: the request, and the answer to it

-- what is asked of user info, and the request for it
pub record SeenPreparedInfo (Key : Type 0) : Type 0 where
  pub ask : SeenInfoRequest Key
  pub request : SeenRequest

unfoldable pub prepared_info : {AC GC Key : Type 0} → SeenLoginClient Key → UserInfoDemand → SeenSignedIn AC GC
    → Meant (SeenPreparedInfo Key)
prepared_info client demand user = do
  ask ← info_ask client demand user.access_token (subject_of user.id_token) or UserInfo (info_error.Other info_other.Uri)
  request ← info_request ask or_as (λ e. UserInfo (unmade e))
  Ok (record { ask = ask; request = request })

unfoldable pub user_with_info : {AC GC Key Use : Type 0} → SiteTypes AC GC Key Use → Demand Key → SeenSignedIn AC GC
    → SeenAnswer → Meant (SeenSignedIn AC GC)
user_with_info types demand user answer = do
  response ← answer or UserInfo (info_error.Request tt)
  TooLong place.UserInfoAnswer when is_over_long response.body
  found ← info_answer types demand response or_as UserInfo
  Ok (with_user_info user found)

-- ---- callback: the two requests between these

-- the reply to a callback, and the requests that it sends
abbrev pub LoginRun : Type 0 → Type 0
LoginRun A = Run A Error

-- the same by the answers that its requests get; past their end comes a fault
abbrev pub ByAnswers : Type 0 → Type 0
ByAnswers A = List SeenAnswer → LoginRun A

-- this reply, and no request
abbrev pub replied : {A : Type 0} → Meant A → ByAnswers A
replied reply answers = record { reply = reply; sent = [] }

-- what follows for a value; a refusal is the reply
infixl 10 ◌passed_to◌
abbrev pub ◌passed_to◌ : {A B : Type 0} → Meant A → (A → ByAnswers B) → ByAnswers B
(Ok x) passed_to next = next x
(Err e) passed_to next = replied (Err e)

-- this request, and what follows for its answer
infixl 10 ◌answered_by◌
abbrev pub ◌answered_by◌ : {A : Type 0} → SeenRequest → (SeenAnswer → ByAnswers A) → ByAnswers A
request answered_by next = λ answers.
    let run = next (first_answer answers) (drop 1 answers) in record { reply = run.reply; sent = request ∷ run.sent }

module _ {AC GC Key Use : Type 0} (types : SiteTypes AC GC Key Use) where
  -- a user who is signed in but for user info, and what the login demands of that
  abbrev pub demand_run : SeenLoginClient Key → Option UserInfoDemand → SeenSignedIn AC GC → ByAnswers (SeenSignedIn AC GC)
  demand_run client None user = replied (Ok user)
  demand_run client (Some demand) user =
      prepared_info client demand user passed_to λ prepared.
      prepared.request answered_by λ answer.
      replied (user_with_info types prepared.ask.demand user answer)

  -- what a callback answers and sends
  abbrev pub outcome : Attempt Key → ByAnswers (SeenSignedIn AC GC)
  outcome a =
      taken_login a.client a.pending a.query passed_to λ taken.
      taken.request answered_by λ answer.
      user_of_answer types a.client a.now taken.login answer passed_to λ user.
      demand_run a.client taken.login.user_info user

-- ---- the store

-- the store without the login that the pairs of a query name
abbrev pub without_named : Pending → List (List ℕ × List ℕ) → Pending
without_named pending query =
    elim (state_in query) [ None ↦ pending | Some state ↦ finite.remove pending state ]

-- the store after a callback: an over-long query is read no further
abbrev pub callback_store : Pending → List ℕ → Pending
callback_store pending query =
    if is_over_long query then pending else without_named pending (pairs query)
