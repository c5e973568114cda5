-- What each answer of a start and of a step rests on, said without the table of a step.
use Rattle.std.specs.Prelude.{◌≡◌, ◌≢◌, ℕ, ◌+◌, ◌<◌, ◌≤◌, ℤ, pos, ◌+ℤ◌, ◌<ℤ◌, ◌≤ℤ◌, List, Option, None, Some, true, false, Result, Ok}
use Rattle.oidc_types.specs.{signing_text}
use Rattle.oidc_types.specs.declared.signing_error.SigningError.{SigningError}
use Rattle.oidc_types.specs.declared.signing_error.SigningError.TheVariants.{UnsupportedAlg}
use Rattle.oidc_oauth2.specs.Messages.{SeenAnswer}
use Rattle.oidc_oauth2.specs.Requests.{is_address}
use Rattle.oidc_oauth2.specs.AnswerCauses.{AnswerCause, IsTokenAnswer}
use Rattle.oidc_oauth2.specs.TokenAnswers.{TokenRefusal}
use Rattle.oidc_oauth2.specs.TokenResponse.{seconds}
use Rattle.oidc_oauth2_requests.specs.FormRequests.{SeenFormRequest}
use Rattle.oidc_oauth2_requests.specs.RequestAnswers.{DeviceError as PollError}
use Rattle.oidc_oauth2_requests.specs.RequestCauses as requests
use Rattle.oidc_oauth2_requests.specs.RequestCauses.{PollCause, StepCause, IsHeld}
use Rattle.oidc_oauth2_requests.specs.declared.device.PollStep.{PollStep}
use Rattle.oidc_oauth2_requests.specs.declared.device.PollStep.TheVariants as poll
use Rattle.oidc_tokens.specs.Refreshed.{FitsHash}
use Rattle.oidc_tokens.specs.declared.verification.refusals.ClaimsVerificationError.{ClaimsVerificationError}
use Rattle.oidc_device.specs.Types.{DeviceTypes, SeenDeviceClient}
use Rattle.oidc_device.specs.Token.{Tokens, tokens_read, SeenIdToken, IsAcceptedBy, failure_for, FailsFor, claimed_hash, hash_under}
use Rattle.oidc_device.specs.SignedIn.{SeenDeviceSignedIn}
use Rattle.oidc_device.specs.Errors.{StartRefusal, Error}
use Rattle.oidc_device.specs.Logins.{SeenCodes, CoreError, error_read, codes_read, Polling, due, SeenDeviceLogin, first_login, codes_ask, poll_ask}
use Rattle.oidc_device.specs.declared.step.DeviceStep.{DeviceStep}
use Rattle.oidc_device.specs.declared.step.DeviceStep.TheVariants as step
use Rattle.oidc_device.specs.declared.errors.StartError.TheVariants as start
use Rattle.oidc_device.specs.declared.errors.DeviceError.TheVariants as device

-- the address of this request isn't one that is sent to
pub record HasNoAddress (own : Option SeenFormRequest) : Type 0 where
  pub ask : SeenFormRequest
  pub own_ask : own ≡ Some ask
  pub no_address : is_address ask.address ≡ false

-- ---- a start

module _ {Key : Type 0} (client : SeenDeviceClient Key) (answers : List SeenAnswer) where
  -- the client's request for codes is refused with this
  pub record HasNoCodes (e : TokenRefusal CoreError) : Type 0 where
    pub ask : SeenFormRequest
    pub own_ask : codes_ask client ≡ Some ask
    pub cause : requests.Cause ask answers (AnswerCause error_read codes_read) e

  abbrev pub StartCause : StartRefusal → Type 0
  StartCause (start.Device e) = HasNoCodes e
  StartCause start.Memory = ⊥

  -- the answer to the client's request holds codes, and this is the first state by them for a start at this moment
  pub record IsStarted (now : ℤ) (login : SeenDeviceLogin Key) : Type 0 where
    pub ask : SeenFormRequest
    pub own_ask : codes_ask client ≡ Some ask
    pub codes : SeenCodes
    pub codes_held : IsHeld ask answers (IsTokenAnswer error_read codes_read) codes
    pub first : login ≡ first_login client now codes

-- ---- what a step meets: these rest on state and moment alone

module _ (p : Polling) (now : ℤ) where
  -- the device code has expired
  pub record HasExpired : Type 0 where
    pub not_over : p.is_over ≡ false
    pub expired : p.expiry ≤ℤ now

  -- the next poll is due later, and this is the least number of seconds after which it will be
  pub record Waits (wait : ℕ) : Type 0 where
    pub not_over : p.is_over ≡ false
    pub unexpired : now <ℤ p.expiry
    -- the nanoseconds that are left
    pub left : ℕ
    pub some_left : 0 < left
    pub due_then : due p ≡ now +ℤ pos left
    pub enough : left ≤ seconds wait
    pub no_second_more : seconds wait < left + seconds 1

  -- a poll is due
  pub record IsDue : Type 0 where
    pub not_over : p.is_over ≡ false
    pub unexpired : now <ℤ p.expiry
    pub due_before : due p ≤ℤ now

-- ---- a poll

-- tokens, and the ID token among them
pub record Held (AC GC : Type 0) : Type 0 where
  pub tokens : Tokens AC GC
  pub token : SeenIdToken AC GC

module _ {AC GC Key Use : Type 0} (types : DeviceTypes AC GC Key Use) (login : SeenDeviceLogin Key) (now : ℤ) (answers : List SeenAnswer) where
  -- a poll was due, and the answer to it says this
  pub record Polled (answered : PollStep (Tokens AC GC)) : Type 0 where
    pub is_due : IsDue login.polling now
    pub ask : SeenFormRequest
    pub own_ask : poll_ask login ≡ Some ask
    pub said : IsHeld ask answers (StepCause (tokens_read types login.client.reading)) answered

  -- a poll was due, and is refused with this
  pub record IsPollRefused (e : TokenRefusal PollError) : Type 0 where
    pub is_due : IsDue login.polling now
    pub ask : SeenFormRequest
    pub own_ask : poll_ask login ≡ Some ask
    pub cause : requests.Cause ask answers (PollCause (tokens_read types login.client.reading)) e

  -- it was answered with tokens, and this ID token is among them
  pub record Holds (h : Held AC GC) : Type 0 where
    pub polled : Polled (poll.Done h.tokens)
    pub own_id_token : h.tokens.extra_fields.id_token ≡ Some h.token

  -- which is accepted at this moment, whatever its nonce
  pub record Accepted (h : Held AC GC) : Type 0 where
    pub holds : Holds h
    pub accepts : IsAcceptedBy types login.client now h.token

  -- and has this `at_hash`
  pub record NamesHash (h : Held AC GC) (claim : List ℕ) : Type 0 where
    pub accepted : Accepted h
    pub own_claim : claimed_hash h.token ≡ Some claim

  -- the hash of the access token by the algorithm and under the key by which the ID token was accepted
  abbrev pub own_hash : (h : Held AC GC) → Accepted h → Option (List ℕ)
  own_hash h accepted =
      hash_under types accepted.accepts.key accepted.accepts.alg h.tokens.access_token

  -- ---- an Ok

  -- A user who is signed in: the ID token came in the answer to this poll, and is accepted at this moment; its `at_hash`,
  -- where it has one, is the hash of the access token that came beside it.
  pub record IsSignedIn (user : SeenDeviceSignedIn AC GC) : Type 0 where
    pub held : Held AC GC
    pub holds : Holds held
    pub accepted : IsAcceptedBy types login.client now held.token
    pub fits_hash : FitsHash types.keys held.token accepted.alg accepted.key held.tokens.access_token
    pub own_id_token : user.id_token ≡ held.token
    pub own_access_token : user.access_token ≡ held.tokens.access_token
    pub own_refresh_token : user.refresh_token ≡ held.tokens.refresh_token

  -- what each answer rests on
  abbrev pub RestsOn : DeviceStep AC GC → Type 0
  RestsOn (step.Wait wait) = Waits login.polling now wait
  RestsOn step.Pending = Polled poll.Pending
  RestsOn step.SlowDown = Polled poll.SlowDown
  RestsOn (step.Done user) = IsSignedIn user

  -- ---- refusals

  -- the tokens have no ID token among them
  pub record LacksIdToken : Type 0 where
    pub tokens : Tokens AC GC
    pub polled : Polled (poll.Done tokens)
    pub no_id_token : tokens.extra_fields.id_token ≡ None

  -- this check of the ID token is the first that fails
  pub record FailsCheck (kind : ClaimsVerificationError) : Type 0 where
    pub held : Held AC GC
    pub holds : Holds held
    pub check_failed : failure_for types login.client now held.token ≡ Some kind
    -- and this is why, said by itself
    pub cause : FailsFor types login.client now held.token kind

  -- the accepted ID token has an `at_hash`, and no hash goes with its algorithm, which the refusal names
  pub record LacksHash (refusal : SigningError) : Type 0 where
    pub held : Held AC GC
    pub claim : List ℕ
    pub names_hash : NamesHash held claim
    pub no_hash : own_hash held names_hash.accepted ≡ None
    pub names_algorithm : refusal ≡ UnsupportedAlg (signing_text names_hash.accepted.accepts.alg)

  -- its `at_hash` isn't the hash of the access token
  pub record HasOtherHash : Type 0 where
    pub held : Held AC GC
    pub claim : List ℕ
    pub names_hash : NamesHash held claim
    pub hash : List ℕ
    pub has_hash : own_hash held names_hash.accepted ≡ Some hash
    pub other : hash ≢ claim

  -- the cause of each refusal; want of memory is none
  abbrev pub Cause : Error → Type 0
  Cause device.Over = login.polling.is_over ≡ true
  Cause device.Expired = HasExpired login.polling now
  Cause (device.Token e) = IsPollRefused e
  Cause device.NoIdToken = LacksIdToken
  Cause (device.Claims kind) = FailsCheck kind
  Cause (device.Signing refusal) = LacksHash refusal
  Cause device.TokenHash = HasOtherHash
  Cause device.Memory = ⊥

-- ---- results

-- the fact, of a user who is signed in
abbrev pub IfDone : {AC GC E : Type 0} → Result (DeviceStep AC GC) E → (SeenDeviceSignedIn AC GC → Type 0) → Type 0
IfDone (Ok (step.Done user)) Fact = Fact user
IfDone result Fact = Unit {0}
