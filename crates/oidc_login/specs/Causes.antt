-- What each reply to a callback rests on, said without the table.
use Rattle.std.specs.Prelude.{◌≡◌, ◌≢◌, ◌⊎◌, ℕ, List, [], drop, Option, None, Some, false, true, Ok, codes}
use Rattle.http_header.specs.FieldValue.{is_visible_text}
use Rattle.oidc_pairs.specs.Pairs.{pairs, values, only_of}
use Rattle.oidc_types.specs.{signing_text}
use Rattle.oidc_types.specs.declared.core_authorization.CoreAuthErrorResponseType.{CoreAuthErrorResponseType}
use Rattle.oidc_types.specs.declared.signing_error.SigningError.{SigningError}
use Rattle.oidc_types.specs.declared.signing_error.SigningError.TheVariants.{UnsupportedAlg}
use Rattle.oidc_oauth2.specs.Messages.{SeenRequest, SeenResponse, SeenAnswer}
use Rattle.oidc_oauth2.specs.Requests.{is_address}
use Rattle.oidc_oauth2.specs.Transport.{first_answer}
use Rattle.oidc_oauth2.specs.TokenAnswers.{is_over_long}
use Rattle.oidc_oauth2.specs.AnswerCauses.{HoldsTokens, StatusCause}
use Rattle.oidc_oauth2.specs.declared.token_answers.OtherCause.TheVariants as other
use Rattle.oidc_oauth2.specs.declared.token_answers.RequestTokenError.TheVariants as token_error
use Rattle.oidc_tokens.specs.declared.verification.refusals.ClaimsVerificationError.{ClaimsVerificationError}
use Rattle.oidc_user_info.specs.UserInfoClaims.{SeenUserInfoClaims}
use Rattle.oidc_user_info.specs.InfoErrors.{InfoRefusal}
use Rattle.oidc_user_info.specs.InfoRequests.{SeenInfoRequest, info_request}
use Rattle.oidc_user_info.specs.InfoCauses as info_causes
use Rattle.oidc_user_info.specs.declared.errors.InfoOther.TheVariants as info_other
use Rattle.oidc_user_info.specs.declared.errors.UserInfoError.TheVariants as info_error
use Rattle.oidc_login.specs.Types.{SiteTypes}
use Rattle.oidc_login.specs.Logins.{SeenLogin}
use Rattle.oidc_login.specs.BeforeRequest.{token_request, login_named_by, error_in}
use Rattle.oidc_login.specs.Token.{Tokens, TokenError, error_read, tokens_read, SeenIdToken, subject_of, IsAcceptedBy, failure_for, FailsFor, claimed_hash, hash_under, FitsHash}
use Rattle.oidc_login.specs.SignedIn.{SeenSignedIn}
use Rattle.oidc_login.specs.UserInfo.{info_ask}
use Rattle.oidc_login.specs.Errors.{Error}
use Rattle.oidc_login.specs.Callback.{Attempt}
use Rattle.oidc_login.specs.declared.types.UserInfoDemand.{UserInfoDemand}
use Rattle.oidc_login.specs.declared.errors.TooLong.{TooLong}
use Rattle.oidc_login.specs.declared.errors.TooLong.TheVariants as place
use Rattle.oidc_login.specs.declared.errors.LoginError.TheVariants as login

-- ---- how far a callback came: each record rests on the one before

module _ {Key : Type 0} (a : Attempt Key) where
  -- the query isn't too long, and names this pending login by its one `state`
  pub record Names (login : SeenLogin) : Type 0 where
    pub short_query : is_over_long a.query ≡ false
    pub login_named : login_named_by a.pending (pairs a.query) ≡ Some login

  -- it has no `error` and one `code`
  pub record HasCode (login : SeenLogin) (code : List ℕ) : Type 0 where
    pub names : Names login
    pub no_error : values a.query (codes "error") ≡ []
    pub one_code : only_of (values a.query (codes "code")) ≡ Some code

  -- for which this is the token request
  pub record Asks (login : SeenLogin) (request : SeenRequest) : Type 0 where
    pub code : List ℕ
    pub has_code : HasCode login code
    pub request_made : token_request a.client login code ≡ Some request

  -- no pending login asks for a request by the query
  abbrev pub AsksNothing : Type 0
  AsksNothing = (login : SeenLogin) (request : SeenRequest) → Asks login request → ⊥

  -- ---- refusals that rest on client, store and query alone

  -- the query names no pending login by one `state`
  pub record NamesNone : Type 0 where
    pub short_query : is_over_long a.query ≡ false
    pub none_named : login_named_by a.pending (pairs a.query) ≡ None

  -- the query has an `error`, and this is the first
  pub record HasError (code : CoreAuthErrorResponseType) : Type 0 where
    pub login : SeenLogin
    pub names : Names login
    pub first_error : error_in (pairs a.query) ≡ Some code

  -- it has no `error`, and not one `code`
  pub record LacksCode : Type 0 where
    pub login : SeenLogin
    pub names : Names login
    pub no_error : values a.query (codes "error") ≡ []
    pub not_one_code : only_of (values a.query (codes "code")) ≡ None

  -- no token request is made, since its address isn't one that is sent to
  pub record HasNoRequest : Type 0 where
    pub login : SeenLogin
    pub code : List ℕ
    pub has_code : HasCode login code
    pub no_request : token_request a.client login code ≡ None

-- a login, the tokens that came for it, and the ID token among them
pub record Held (AC GC : Type 0) : Type 0 where
  pub login : SeenLogin
  pub tokens : Tokens AC GC
  pub token : SeenIdToken AC GC

module _ {AC GC Key Use : Type 0} (types : SiteTypes AC GC Key Use) (a : Attempt Key) (answers : List SeenAnswer) where
  -- this response came to the token request
  pub record Answered (login : SeenLogin) (response : SeenResponse) : Type 0 where
    pub request : SeenRequest
    pub asked : Asks a login request
    pub response_came : first_answer answers ≡ Some response
    pub not_too_long : is_over_long response.body ≡ false

  -- and holds these tokens
  pub record Reads (login : SeenLogin) (tokens : Tokens AC GC) : Type 0 where
    pub response : SeenResponse
    pub answered : Answered login response
    pub tokens_held : HoldsTokens error_read (tokens_read types a.client.reading) response tokens

  -- with this ID token among them
  pub record Holds (h : Held AC GC) : Type 0 where
    pub reads : Reads h.login h.tokens
    pub own_id_token : h.tokens.extra_fields.id_token ≡ Some h.token

  -- which is accepted with the login's nonce at this moment
  pub record Accepted (h : Held AC GC) : Type 0 where
    pub holds : Holds h
    pub accepts : IsAcceptedBy types a.client h.login.nonce a.now h.token

  -- and has this `at_hash`
  pub record NamesHash (h : Held AC GC) (claim : List ℕ) : Type 0 where
    pub accepted : Accepted h
    pub own_claim : claimed_hash h.token ≡ Some claim

  -- the hash of the access token by the algorithm and under the key by which the ID token was accepted
  abbrev pub own_hash : (h : Held AC GC) → Accepted h → Option (List ℕ)
  own_hash h accepted =
      hash_under types accepted.accepts.key accepted.accepts.alg h.tokens.access_token

  -- any `at_hash` of the accepted ID token is that hash
  pub record Fits (h : Held AC GC) : Type 0 where
    pub accepted : Accepted h
    pub fits_hash : FitsHash types h.token accepted.accepts.key accepted.accepts.alg h.tokens.access_token

  -- ---- user info

  -- the login demands user info, and this is what the client's endpoint is asked
  pub record Demands (h : Held AC GC) (ask : SeenInfoRequest Key) : Type 0 where
    pub fits : Fits h
    pub demand : UserInfoDemand
    pub demanded : h.login.user_info ≡ Some demand
    pub own_ask : info_ask a.client demand h.tokens.access_token (subject_of h.token) ≡ Some ask

  -- by this request
  pub record AsksInfo (h : Held AC GC) (ask : SeenInfoRequest Key) (request : SeenRequest) : Type 0 where
    pub demands : Demands h ask
    pub request_made : info_request ask ≡ Ok request

  -- to which this response came
  pub record InfoAnswered (h : Held AC GC) (ask : SeenInfoRequest Key) (response : SeenResponse) : Type 0 where
    pub request : SeenRequest
    pub asked : AsksInfo h ask request
    pub response_came : first_answer (drop 1 answers) ≡ Some response
    pub not_too_long : is_over_long response.body ≡ false

  -- and holds this user info
  pub record HoldsInfo (h : Held AC GC) (found : SeenUserInfoClaims AC GC) : Type 0 where
    pub ask : SeenInfoRequest Key
    pub response : SeenResponse
    pub answered : InfoAnswered h ask response
    pub info_held : info_causes.IsUserInfo ask (drop 1 answers) types found

  -- user info is there exactly where the login demands it
  abbrev pub HasInfo : Held AC GC → Option (SeenUserInfoClaims AC GC) → Type 0
  HasInfo h None = h.login.user_info ≡ None
  HasInfo h (Some found) = HoldsInfo h found

  -- ---- an Ok

  -- A user who is signed in: the ID token came in the answer to the token request of the named
  -- login, and is accepted with that login's nonce at this moment; its `at_hash`, where it has one, is
  -- the hash of the access token that came beside it; user info, where the login demands it, came in the answer to
  -- the user info request. (It rests on no record but `Holds`, so that it can be read alone.)
  pub record IsSignedIn (signed : SeenSignedIn AC GC) : Type 0 where
    pub held : Held AC GC
    pub holds : Holds held
    pub accepted : IsAcceptedBy types a.client held.login.nonce a.now held.token
    pub fits_hash : FitsHash types held.token accepted.key accepted.alg held.tokens.access_token
    pub own_id_token : signed.id_token ≡ held.token
    pub own_access_token : signed.access_token ≡ held.tokens.access_token
    pub own_refresh_token : signed.refresh_token ≡ held.tokens.refresh_token
    pub info : HasInfo held signed.user_info

  -- ---- refusals by what came to the token request

  -- the transport failed on the token request
  pub record HasNoTokenResponse : Type 0 where
    pub login : SeenLogin
    pub request : SeenRequest
    pub asked : Asks a login request
    pub no_response : first_answer answers ≡ None

  -- the body of its response is too long
  pub record HasLongResponse : Type 0 where
    pub login : SeenLogin
    pub request : SeenRequest
    pub asked : Asks a login request
    pub response : SeenResponse
    pub response_came : first_answer answers ≡ Some response
    pub too_long : is_over_long response.body ≡ true

  -- its response is refused: by its status, by its media type, as empty, or by what it says
  pub record HasNoTokens (e : TokenError) : Type 0 where
    pub login : SeenLogin
    pub response : SeenResponse
    pub answered : Answered login response
    pub cause : StatusCause error_read (tokens_read types a.client.reading) response e

  -- the tokens have no ID token among them
  pub record LacksIdToken : Type 0 where
    pub login : SeenLogin
    pub tokens : Tokens AC GC
    pub reads : Reads login tokens
    pub no_id_token : tokens.extra_fields.id_token ≡ None

  -- this check of the ID token is the first that fails
  pub record FailsCheck (kind : ClaimsVerificationError) : Type 0 where
    pub held : Held AC GC
    pub holds : Holds held
    pub check_failed : failure_for types a.client held.login.nonce a.now held.token ≡ Some kind
    -- and this is why, said by itself
    pub cause : FailsFor types a.client held.login.nonce a.now held.token kind

  -- the accepted ID token has an `at_hash`, and no hash goes with its algorithm, which the refusal names
  pub record LacksHash (refusal : SigningError) : Type 0 where
    pub held : Held AC GC
    pub claim : List ℕ
    pub names_hash : NamesHash held claim
    pub no_hash : own_hash held names_hash.accepted ≡ None
    pub names_algorithm : refusal ≡ UnsupportedAlg (signing_text names_hash.accepted.accepts.alg)

  -- its `at_hash` isn't the hash of the access token
  pub record HasOtherHash : Type 0 where
    pub held : Held AC GC
    pub claim : List ℕ
    pub names_hash : NamesHash held claim
    pub hash : List ℕ
    pub has_hash : own_hash held names_hash.accepted ≡ Some hash
    pub other : hash ≢ claim

  -- ---- refusals by user info

  -- the access token may not stand in a header
  pub record HasNoBearer : Type 0 where
    pub held : Held AC GC
    pub ask : SeenInfoRequest Key
    pub demands : Demands held ask
    pub no_header_text : is_visible_text held.tokens.access_token ≡ false

  -- the text of the client's endpoint isn't an address that is sent to
  pub record HasNoInfoAddress : Type 0 where
    pub held : Held AC GC
    pub ask : SeenInfoRequest Key
    pub demands : Demands held ask
    pub header_text : is_visible_text held.tokens.access_token ≡ true
    pub no_address : is_address ask.address ≡ false

  -- the client has no endpoint for user info: no store has a login that demands it then
  pub record LacksEndpoint : Type 0 where
    pub held : Held AC GC
    pub fits : Fits held
    pub demand : UserInfoDemand
    pub demanded : held.login.user_info ≡ Some demand
    pub no_endpoint : a.client.user_info_url ≡ None

  -- the transport failed on the user info request
  pub record HasNoInfoResponse : Type 0 where
    pub held : Held AC GC
    pub ask : SeenInfoRequest Key
    pub request : SeenRequest
    pub asked : AsksInfo held ask request
    pub no_response : first_answer (drop 1 answers) ≡ None

  -- the body of its response is too long
  pub record HasLongInfo : Type 0 where
    pub held : Held AC GC
    pub ask : SeenInfoRequest Key
    pub request : SeenRequest
    pub asked : AsksInfo held ask request
    pub response : SeenResponse
    pub response_came : first_answer (drop 1 answers) ≡ Some response
    pub too_long : is_over_long response.body ≡ true

  -- its response is refused: by its status, by its media type, as unsigned, or by what it says
  pub record HasNoInfo (e : InfoRefusal) : Type 0 where
    pub held : Held AC GC
    pub ask : SeenInfoRequest Key
    pub response : SeenResponse
    pub answered : InfoAnswered held ask response
    pub cause : info_causes.Cause ask (drop 1 answers) types e

  -- ---- the cause of each refusal

  abbrev pub TooLongCause : TooLong → Type 0
  TooLongCause place.Callback = is_over_long a.query ≡ true
  TooLongCause place.TokenAnswer = HasLongResponse
  TooLongCause place.UserInfoAnswer = HasLongInfo

  abbrev pub TokenCause : TokenError → Type 0
  TokenCause (token_error.Other other.Uri) = HasNoRequest a
  TokenCause (token_error.Request cause) = HasNoTokenResponse
  TokenCause (token_error.TooLong body) = ⊥
  TokenCause token_error.Memory = ⊥
  TokenCause e = HasNoTokens e

  abbrev pub UserInfoCause : InfoRefusal → Type 0
  UserInfoCause (info_error.Other info_other.Bearer) = HasNoBearer
  UserInfoCause (info_error.Other info_other.Uri) = HasNoInfoAddress ⊎ LacksEndpoint
  UserInfoCause (info_error.Request cause) = HasNoInfoResponse
  UserInfoCause (info_error.TooLong body) = ⊥
  UserInfoCause info_error.Memory = ⊥
  UserInfoCause e = HasNoInfo e

  abbrev pub Cause : Error → Type 0
  Cause (login.TooLong at) = TooLongCause at
  Cause login.State = NamesNone a
  Cause (login.Provider code) = HasError a code
  Cause login.Callback = LacksCode a
  Cause (login.Token e) = TokenCause e
  Cause login.NoIdToken = LacksIdToken
  Cause (login.Claims kind) = FailsCheck kind
  Cause (login.Signing refusal) = LacksHash refusal
  Cause login.TokenHash = HasOtherHash
  Cause (login.UserInfo e) = UserInfoCause e
  Cause (login.Memory spent) = ⊥
