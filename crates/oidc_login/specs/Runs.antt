-- What a callback leaves of any transport, and what its reply rests on.
use Rattle.std.specs.Prelude.{◌≡◌, ◌≤◌, ◌⊎◌, ℕ, ℤ, List, [], ◌∷◌, length, take, if◌then◌else◌, Result, Ok, Err, IfOk, IfErr, IsOk, OnOk}
use Rattle.oidc_pairs.specs.Pairs.{pairs}
use Rattle.oidc_oauth2.specs.Messages.{SeenRequest, SeenAnswer}
use Rattle.oidc_oauth2.specs.Replies.{Unless, OrMemory, Gives}
use Rattle.oidc_oauth2.specs.Exchanges.{Known, Follows}
use Rattle.oidc_user_info.specs.InfoRequests.{SeenInfoRequest}
use Rattle.oidc_login.specs.Types.{SiteTypes, SeenLoginClient}
use Rattle.oidc_login.specs.Logins.{SeenLogin, Pending, SeenLogins}
use Rattle.oidc_login.specs.SignedIn.{SeenSignedIn}
use Rattle.oidc_login.specs.Errors.{Error, seen, wants_memory, is_spent_by, login_errors}
use Rattle.oidc_login.specs.Callback.{Attempt, outcome, without_named}
use Rattle.oidc_login.specs.Causes.{Asks, Held, AsksInfo, Cause, IsSignedIn}
use Rattle.oidc_login.specs.ValidLogin.{IsValidLogin}
use Rattle.oidc_login.specs.declared.errors.LoginError.{LoginError}

-- the token request of a named login, and nothing else
pub record IsItsRequest {Key : Type 0} (a : Attempt Key) (sent : List SeenRequest) : Type 0 where
  pub login : SeenLogin
  pub request : SeenRequest
  pub asked : Asks a login request
  pub alone : sent ≡ request ∷ []

module _ {AC GC Key Use : Type 0} (types : SiteTypes AC GC Key Use) where
  -- The token request of a named login that demands user info, and behind it the request for that: the ID token was
  -- accepted by then, and any `at_hash` in it is the hash of the access token.
  pub record AreBothRequests (a : Attempt Key) (answers : List SeenAnswer) (sent : List SeenRequest) : Type 0 where
    pub held : Held AC GC
    pub first : SeenRequest
    pub asked : Asks a held.login first
    pub ask : SeenInfoRequest Key
    pub second : SeenRequest
    pub asked_info : AsksInfo types a answers held ask second
    pub both : sent ≡ first ∷ second ∷ []

  abbrev pub AreItsRequests : Attempt Key → List SeenAnswer → List SeenRequest → Type 0
  AreItsRequests a answers sent = IsItsRequest a sent ⊎ AreBothRequests a answers sent

  -- the requests of the outcome that took these answers
  abbrev pub handed_over : Attempt Key → List SeenAnswer → List SeenRequest
  handed_over a answers = take (length answers) (outcome types a answers).sent

  -- For some answers: each took one of the requests of the outcome, in their order, and the reply is
  -- that of the outcome, or want of memory. Where the transport keeps a log, they are those that came.
  pub record Ran {E : Type 0} (a : Attempt Key) (old new : Known) (result : Result (SeenSignedIn AC GC) (LoginError E))
      : Type 0 where
    pub exchanged : Follows login_errors (outcome types a) old new result
    -- at most two requests were handed over: the one that the named login and the query ask for, and where
    -- the login demands user info the one for that. For an Ok they were.
    pub at_most_two_requests : length (handed_over a exchanged.answers) ≤ 2
    pub only_its_requests : (handed_over a exchanged.answers ≡ []) ⊎ AreItsRequests a exchanged.answers (handed_over a exchanged.answers)
    pub own_requests : OnOk result (AreItsRequests a exchanged.answers (handed_over a exchanged.answers))
    -- each refusal has its cause, and each cause its refusal
    pub cause : IfErr result (λ e. Unless (wants_memory e) (Cause types a exchanged.answers (seen e)))
    pub refused : (e : Error) → Cause types a exchanged.answers e → Gives login_errors result (Err e)
    -- an Ok signs in, and what signs in is an Ok
    pub signed_in : IfOk result (IsSignedIn types a exchanged.answers)
    pub signs_in : (signed : SeenSignedIn AC GC) → IsSignedIn types a exchanged.answers signed → Gives login_errors result (Ok signed)
    -- a valid login signs in
    pub valid : IsValidLogin types a exchanged.answers → OrMemory login_errors result (IsOk result)

-- ---- where a callback starts, and what it leaves of the store

abbrev pub attempt_by : {Key : Type 0} → SeenLoginClient Key → Pending → List ℕ → ℤ → Attempt Key
attempt_by client pending query now =
    record { client = client; pending = pending; query = query; now = now }

-- a callback with this query, at this moment
abbrev pub attempt : {Key : Type 0} → SeenLogins Key → List ℕ → ℤ → Attempt Key
attempt logins query now = attempt_by logins.client logins.pending query now

-- the login that the query names is removed where the result says so, and nothing else
abbrev pub Leaves : {Key A E : Type 0} → Attempt Key → Pending → Result A (LoginError E) → Type 0
Leaves a pending result =
    pending ≡ (if is_spent_by result then without_named a.pending (pairs a.query) else a.pending)
