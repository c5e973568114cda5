-- A step of a device login: what it answers and sends, a line a case, from the first test to the last, and the state that
-- it leaves (RFC 8628 sections 3.4 and 3.5).
use Rattle.std.specs.Prelude.{ℕ, ◌+◌, ◌*◌, ◌-◌, ◌^◌, min, max, ℤ, int_lt, List, [], Bool, true, not, Result, Ok, Err, if◌then◌else◌}
use Rattle.std.specs.Int.{int_gap, div_ceil}
use Rattle.oidc_oauth2.specs.Messages.{SeenAnswer}
use Rattle.oidc_oauth2.specs.Replies.{◌>>=◌, ◌>>◌, ◌when◌, ◌for◌, ◌or◌, ◌or_as◌}
use Rattle.oidc_oauth2.specs.Exchanges.{Run}
use Rattle.oidc_oauth2.specs.TokenAnswers.{TokenRefusal}
use Rattle.oidc_oauth2.specs.declared.token_answers.RequestTokenError.TheVariants as token_error
use Rattle.oidc_oauth2_requests.specs.RequestAnswers as requests
use Rattle.oidc_oauth2_requests.specs.RequestAnswers.{poll_answer}
use Rattle.oidc_oauth2_requests.specs.declared.device.PollStep.{PollStep}
use Rattle.oidc_oauth2_requests.specs.declared.device.PollStep.TheVariants as poll
use Rattle.oidc_device.specs.Types.{DeviceTypes, SeenDeviceClient}
use Rattle.oidc_device.specs.Token.{Tokens, tokens_read, failure_for, hash_refusal, has_another_hash}
use Rattle.oidc_device.specs.SignedIn.{SeenDeviceSignedIn, signed_by}
use Rattle.oidc_device.specs.Errors.{Error}
use Rattle.oidc_device.specs.Logins.{Polling, due, SeenDeviceLogin, poll_ask, asked_run, answered_by}
use Rattle.oidc_device.specs.declared.step.DeviceStep.{DeviceStep}
use Rattle.oidc_device.specs.declared.step.DeviceStep.TheVariants as step
use Rattle.oidc_device.specs.declared.errors.DeviceError.TheVariants as device
use Rattle.oidc_device.specs.declared.errors.DeviceError.TheVariants.{Over, Expired, Token, NoIdToken, Claims, Signing, TokenHash}

-- what a step answers
abbrev pub StepReply : Type 0 → Type 0 → Type 0
StepReply AC GC = Result (DeviceStep AC GC) Error

-- ---- moments

-- it isn't before this moment any more
abbrev pub has_come : ℤ → ℤ → Bool
has_come moment now = not (int_lt now moment)

-- the whole seconds up to a later moment, rounded up
abbrev pub seconds_until : ℤ → ℤ → ℕ
seconds_until moment now = div_ceil (int_gap now moment) 1_000_000_000

-- ---- what a poll is answered

module _ {AC GC Key Use : Type 0} (types : DeviceTypes AC GC Key Use) (client : SeenDeviceClient Key) (now : ℤ) where
  -- the tokens that came, by the ID token among them
  unfoldable pub user_of_tokens : Tokens AC GC → Result (SeenDeviceSignedIn AC GC) Error
  user_of_tokens tokens = do
    token ← tokens.extra_fields.id_token or NoIdToken
    Claims for failure_for types client now token
    Signing for hash_refusal types client token tokens.access_token
    TokenHash when has_another_hash types client token tokens.access_token
    Ok (signed_by token tokens)

  abbrev pub judged_step : PollStep (Tokens AC GC) → StepReply AC GC
  judged_step poll.Pending = Ok step.Pending
  judged_step poll.SlowDown = Ok step.SlowDown
  judged_step (poll.Done tokens) = do
    user ← user_of_tokens tokens
    Ok (step.Done user)

  -- by what came of the one request
  abbrev pub poll_reply : Result (PollStep (Tokens AC GC)) (TokenRefusal requests.DeviceError) → StepReply AC GC
  poll_reply polled = do
    answered ← polled or_as Token
    judged_step answered

-- ---- a step

module _ {AC GC Key Use : Type 0} (types : DeviceTypes AC GC Key Use) where
  -- what a device answers and sends by the answers that its requests get
  abbrev pub DeviceRun : Type 0
  DeviceRun = Run (DeviceStep AC GC) Error

  -- this answer, and no request
  abbrev pub unsent : StepReply AC GC → DeviceRun
  unsent reply = record { reply = reply; sent = [] }

  -- a poll: one request, where its address is one that is sent to
  abbrev pub poll_run : SeenDeviceLogin Key → ℤ → List SeenAnswer → DeviceRun
  poll_run login now answers =
      answered_by (poll_reply types login.client now)
      (asked_run (poll_answer (tokens_read types login.client.reading)) (poll_ask login) answers)

  -- a step at this moment
  abbrev pub device_step : SeenDeviceLogin Key → ℤ → List SeenAnswer → DeviceRun
  device_step login now answers =
      if login.polling.is_over then unsent (Err Over)
      else if has_come login.polling.expiry now then unsent (Err Expired)
      else if not (has_come (due login.polling) now)
      then unsent (Ok (step.Wait (seconds_until (due login.polling) now)))
      else poll_run login now answers

-- ---- the state after it

-- the longest interval, in seconds
abbrev pub longest : ℕ
longest = 2 ^ 64 - 1

-- the interval, raised by five seconds, and doubled to five seconds at least
abbrev pub raised : ℕ → ℕ
raised interval = min (interval + 5) longest

abbrev pub doubled : ℕ → ℕ
doubled interval = max (min (interval * 2) longest) 5

abbrev pub polled_at : ℤ → Polling → Polling
polled_at now p = record p { last_poll = now }

abbrev pub ended : Polling → Polling
ended p = record p { is_over = true }

-- when the device may poll after a step at this moment that was refused so, for want of memory included
abbrev pub polling_refused : ℤ → Polling → Error → Polling
polling_refused now p Over = p
polling_refused now p Expired = ended p
polling_refused now p (Token (token_error.Request cause)) = record (polled_at now p) { interval = doubled p.interval }
polling_refused now p device.Memory = polled_at now p
polling_refused now p e = ended (polled_at now p)

module _ {AC GC : Type 0} where
  -- and after one that answered so
  abbrev pub polling_after : ℤ → Polling → StepReply AC GC → Polling
  polling_after now p (Ok (step.Wait seconds)) = p
  polling_after now p (Ok step.Pending) = polled_at now p
  polling_after now p (Ok step.SlowDown) = record (polled_at now p) { interval = raised p.interval }
  polling_after now p (Ok (step.Done user)) = ended (polled_at now p)
  polling_after now p (Err e) = polling_refused now p e

  abbrev pub login_after : {Key : Type 0} → ℤ → SeenDeviceLogin Key → StepReply AC GC → SeenDeviceLogin Key
  login_after now login reply = record login { polling = polling_after now login.polling reply }
