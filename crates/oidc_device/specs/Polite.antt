-- Whole runs of steps: when a device polls, and that it sends nothing else and nothing after the end, whatever it is
-- answered, and whenever its steps are made (RFC 8628 section 3.5).
use Rattle.std.specs.Prelude.{◌≡◌, ◌⊎◌, ◌↔◌, ℕ, ℤ, pos, ◌+ℤ◌, List, [], ◌∷◌, ◌++◌, Bool, true, false, Some, Ok, Err, if◌then◌else◌}
use Rattle.std.specs.List.{list_any}
use Rattle.oidc_oauth2.specs.Messages.{SeenRequest, SeenAnswer}
use Rattle.oidc_oauth2.specs.TokenResponse.{whole_seconds}
use Rattle.oidc_oauth2.specs.declared.token_answers.OtherCause.TheVariants.{Uri}
use Rattle.oidc_oauth2.specs.declared.token_answers.RequestTokenError.TheVariants as token_error
use Rattle.oidc_oauth2_requests.specs.FormRequests.{SeenFormRequest, form_request}
use Rattle.oidc_device.specs.Types.{DeviceTypes, SeenDeviceClient}
use Rattle.oidc_device.specs.Logins.{Polling, SeenCodes, SeenDeviceLogin, first_login, poll_ask}
use Rattle.oidc_device.specs.DeviceStep.{StepReply, DeviceRun, raised, doubled, login_after, device_step}
use Rattle.oidc_device.specs.Causes.{HasExpired, Waits, IsDue}
use Rattle.oidc_device.specs.declared.step.DeviceStep.TheVariants as step
use Rattle.oidc_device.specs.declared.errors.DeviceError.TheVariants as device

-- ---- steps, and what comes of them

-- What comes of the poll of a step, where one is due: an answer, or want of memory, before the request is handed over or
-- after that.
pub data Outcome : Type 0 where
  answered : SeenAnswer → Outcome
  wanting_before : Outcome
  wanting_after : Outcome

pub record TimedStep : Type 0 where
  pub now : ℤ
  pub outcome : Outcome

-- a step that was made, with what it answered and sent
pub record Turn (AC GC : Type 0) : Type 0 where
  pub now : ℤ
  pub reply : StepReply AC GC
  pub sent : List SeenRequest

module _ {AC GC : Type 0} where
  -- a poll was due
  abbrev pub polls : StepReply AC GC → Bool
  polls (Ok (step.Wait wait)) = false
  polls (Ok said) = true
  polls (Err device.Over) = false
  polls (Err device.Expired) = false
  polls (Err e) = true

  -- the login ends with this answer
  abbrev pub ends : StepReply AC GC → Bool
  ends (Ok (step.Done user)) = true
  ends (Ok said) = false
  ends (Err device.Over) = false
  ends (Err device.Memory) = false
  ends (Err (device.Token (token_error.Request cause))) = false
  ends (Err e) = true

module _ {AC GC Key Use : Type 0} (types : DeviceTypes AC GC Key Use) where
  -- want of memory, where these were sent
  abbrev pub in_want : List SeenRequest → DeviceRun types
  in_want sent = record { reply = Err device.Memory; sent = sent }

  -- there is no memory for what would be answered, where a poll is due
  abbrev pub wanting : DeviceRun types → List SeenRequest → DeviceRun types
  wanting meant sent = if polls meant.reply then in_want sent else meant

  -- a step by what comes of it
  abbrev pub run_by : SeenDeviceLogin Key → ℤ → Outcome → DeviceRun types
  run_by login now (answered answer) = device_step types login now (answer ∷ [])
  run_by login now wanting_before = wanting (device_step types login now []) []
  run_by login now wanting_after =
      let meant = device_step types login now [] in wanting meant meant.sent

  abbrev pub turn_by : SeenDeviceLogin Key → TimedStep → Turn AC GC
  turn_by login s =
      let run = run_by login s.now s.outcome in
      record { now = s.now; reply = run.reply; sent = run.sent }

  -- steps one after another, each from the state that the one before it leaves
  abbrev pub turns_from : SeenDeviceLogin Key → List TimedStep → List (Turn AC GC)
  turns_from login [] = []
  turns_from login (s ∷ later) =
      let turn = turn_by login s in turn ∷ turns_from (login_after s.now login turn.reply) later

-- ---- what is said of them, without the state

module _ {AC GC : Type 0} where
  -- the moment of the last poll, and the start where there is none
  abbrev pub last_poll_so_far : ℤ → List (Turn AC GC) → ℤ
  last_poll_so_far start [] = start
  last_poll_so_far start (turn ∷ later) = last_poll_so_far (if polls turn.reply then turn.now else start) later

  -- an interval, in seconds, after an answer: five more for each `slow_down`, and the double, five at least, for each
  -- fault of the transport
  abbrev pub interval_after : ℕ → StepReply AC GC → ℕ
  interval_after interval (Ok step.SlowDown) = raised interval
  interval_after interval (Err (device.Token (token_error.Request cause))) = doubled interval
  interval_after interval reply = interval

  abbrev pub interval_so_far : ℕ → List (Turn AC GC) → ℕ
  interval_so_far interval [] = interval
  interval_so_far interval (turn ∷ later) = interval_so_far (interval_after interval turn.reply) later

  -- one of them has ended the login
  abbrev pub has_ended : List (Turn AC GC) → Bool
  has_ended turns = list_any (λ turn. ends turn.reply) turns

  -- When the device may poll after these turns of a login that started so, by their answers alone: the expiry stays, the
  -- last poll is theirs, or the start, and the interval is the first one, with all that their answers make of it.
  abbrev pub polling_so_far : SeenCodes → ℤ → List (Turn AC GC) → Polling
  polling_so_far codes start earlier = record {
    expiry = start +ℤ pos codes.expires_in;
    last_poll = last_poll_so_far start earlier;
    interval = interval_so_far (whole_seconds codes.interval) earlier;
    is_over = has_ended earlier;
  }

-- a turn after earlier ones, of a login that started so
pub record IsPolite {AC GC Key : Type 0} (client : SeenDeviceClient Key) (codes : SeenCodes) (start : ℤ)
    (earlier : List (Turn AC GC)) (turn : Turn AC GC) : Type 0 where
  -- A poll comes exactly where one is due: no answer so far has ended the login, the interval has gone by since the last
  -- poll, or since the start, and the codes haven't expired.
  pub polls_when_due : (polls turn.reply ≡ true) ↔ IsDue (polling_so_far codes start earlier) turn.now
  -- The step waits exactly where the interval hasn't gone by, for the whole seconds that are left, rounded up.
  pub waits : (wait : ℕ)
      → (turn.reply ≡ Ok (step.Wait wait)) ↔ Waits (polling_so_far codes start earlier) turn.now wait
  -- It is expired exactly where the login hasn't ended, and the moment isn't before the expiry.
  pub expired : (turn.reply ≡ Err device.Expired) ↔ HasExpired (polling_so_far codes start earlier) turn.now
  -- It is over exactly where an answer so far has ended the login; such an answer comes once.
  pub over : (turn.reply ≡ Err device.Over) ↔ (has_ended earlier ≡ true)
  pub ends_once : has_ended earlier ≡ true → ends turn.reply ≡ false
  -- Nothing is sent but at a poll, and then the client's one request for tokens by the device code. There is none only
  -- where memory is wanted before it, or its address isn't one that is sent to.
  pub sent_at_polls : polls turn.reply ≡ false → turn.sent ≡ []
  pub own_request : (turn.sent ≡ []) ⊎
      ((ask : SeenFormRequest) × (request : SeenRequest)
      × (poll_ask (first_login client start codes) ≡ Some ask) × (form_request ask ≡ Some request)
      × (turn.sent ≡ request ∷ []))
  pub sends : polls turn.reply ≡ true → turn.sent ≡ []
      → (turn.reply ≡ Err device.Memory) ⊎ (turn.reply ≡ Err (device.Token (token_error.Other Uri)))

-- In every run of every login each turn is.
abbrev pub Polite : {AC GC Key Use : Type 0} → DeviceTypes AC GC Key Use → Type 0
Polite {AC} {GC} {Key} types =
    (client : SeenDeviceClient Key) (codes : SeenCodes) (start : ℤ) (steps : List TimedStep)
    (earlier : List (Turn AC GC)) (turn : Turn AC GC) (later : List (Turn AC GC))
    → turns_from types (first_login client start codes) steps ≡ earlier ++ turn ∷ later
    → IsPolite client codes start earlier turn
