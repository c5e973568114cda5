-- A step where a poll is due: it is the one request of polling, and what its result rests on.
use Rattle.std.proofs.Common.{◌≡◌, ℕ, ℤ, List, Bool, true, false, cond, Some, Result, Ok, Err, refl, sym, ap, subst, ◌∙◌}
use Rattle.std.specs.Prelude.{IfOk, IfErr, not}
use Rattle.oidc_types.specs.{TextAndUrl}
use Rattle.oidc_oauth2.specs.Messages.{SeenAnswer}
use Rattle.oidc_oauth2.specs.Replies.{Unless, OrMemory, Gives}
use Rattle.oidc_oauth2.specs.Exchanges.{Known, Follows}
use Rattle.oidc_oauth2.specs.TokenAnswers.{TokenRefusal, token_errors, seen_refusal, wants_memory as poll_wants}
use Rattle.oidc_oauth2.specs.declared.token_answers.RequestTokenError.{RequestTokenError}
use Rattle.oidc_oauth2.proofs.Runs.{unless}
use Rattle.oidc_oauth2_requests.specs.FormRequests.{SeenFormRequest, device_code_pairs}
use Rattle.oidc_oauth2_requests.specs.RequestAnswers.{DeviceError as PollError, poll_answer}
use Rattle.oidc_oauth2_requests.specs.RequestCauses as requests
use Rattle.oidc_oauth2_requests.specs.RequestCauses.{PollCause, StepCause}
use Rattle.oidc_oauth2_requests.specs.RequestRuns.{request_run, RanForStep}
use Rattle.oidc_oauth2_requests.specs.declared.device.PollStep.{PollStep}
use Rattle.oidc_oauth2_requests.specs.declared.device.PollStep.TheVariants as poll
use Rattle.oidc_client.specs.Client.{token_request_at}
use Rattle.oidc_device.specs.Types.{DeviceTypes, SeenDeviceClient}
use Rattle.oidc_device.specs.Token.{Tokens, tokens_read}
use Rattle.oidc_device.specs.Errors.{Error, device_errors}
use Rattle.oidc_device.specs.Logins.{Polling, due, SeenCodes, SeenDeviceLogin, poll_ask, asked_run}
use Rattle.oidc_device.specs.DeviceStep.{StepReply, DeviceRun, unsent, has_come, seconds_until, judged_step, poll_reply, poll_run, device_step}
use Rattle.oidc_device.specs.Causes.{IsDue, Polled, IsPollRefused, RestsOn, Cause}
use Rattle.oidc_device.specs.Runs.{Stepped}
use Rattle.oidc_device.specs.Steps.{turn_of, login_at}
use Rattle.oidc_device.specs.declared.clock.Turn.{Turn}
use Rattle.oidc_device.specs.declared.clock.Turn.TheVariants as turn
use Rattle.oidc_device.specs.declared.step.DeviceStep.{DeviceStep}
use Rattle.oidc_device.specs.declared.step.DeviceStep.TheVariants as step
use Rattle.oidc_device.specs.declared.errors.DeviceError.{DeviceError}
use Rattle.oidc_device.specs.declared.errors.DeviceError.TheVariants as device
use Rattle.oidc_device.proofs.Moments.{never_both, due_turn, never_waits}
use Rattle.oidc_device.proofs.Users.{judged-walk, signed_back, lacks_back, fails_back, unhashed_back, other_back}
use Rattle.oidc_device.proofs.Mapped.{follows_by, Rests, rests, rests_wanting, asked_at}

-- ---- a step by its turn

module _ {AC GC Key Use : Type 0} (types : DeviceTypes AC GC Key Use) (login : SeenDeviceLogin Key) (now : ℤ) (answers : List SeenAnswer) where
  abbrev pub run_by_turn : Turn → DeviceRun types
  run_by_turn turn.Over = unsent types (Err device.Over)
  run_by_turn turn.Expired = unsent types (Err device.Expired)
  run_by_turn (turn.Wait wait) = unsent types (Ok (step.Wait wait))
  run_by_turn turn.Poll = poll_run types login now answers

  abbrev step_by : Bool → Bool → Bool → ℕ → DeviceRun types
  step_by over expired early wait =
      cond over (run_by_turn turn.Over) (cond expired (run_by_turn turn.Expired) (cond early (run_by_turn (turn.Wait wait)) (run_by_turn turn.Poll)))

  abbrev turn_by : Bool → Bool → Bool → ℕ → Turn
  turn_by over expired come wait = cond over turn.Over (cond expired turn.Expired (cond come turn.Poll (turn.Wait wait)))

  by_cases : (over expired come : Bool) (wait : ℕ) → step_by over expired (not come) wait ≡ run_by_turn (turn_by over expired come wait)
  by_cases true expired come wait = refl
  by_cases false true come wait = refl
  by_cases false false true wait = refl
  by_cases false false false wait = refl

  pub step_by_turn : device_step types login now answers ≡ run_by_turn (turn_of login.polling now)
  step_by_turn =
      by_cases login.polling.is_over (has_come login.polling.expiry now) (has_come (due login.polling) now) (seconds_until (due login.polling) now)

  pub step_at : (t : Turn) → turn_of login.polling now ≡ t → device_step types login now answers ≡ run_by_turn t
  step_at t is = step_by_turn ∙ ap run_by_turn is

-- ---- the request of polling

module _ {AC GC Key Use : Type 0} (types : DeviceTypes AC GC Key Use) (client : SeenDeviceClient Key) (codes : SeenCodes) (p : Polling) (now : ℤ) (is_due : IsDue p now)
    (endpoint : TextAndUrl) (own_endpoint : client.token_uri ≡ Some endpoint) where
  abbrev login : SeenDeviceLogin Key
  login = login_at client codes p

  abbrev ask : SeenFormRequest
  ask = token_request_at client (device_code_pairs codes.device_code) endpoint

  own_ask : poll_ask login ≡ Some ask
  own_ask = asked_at client.token_uri endpoint (token_request_at client (device_code_pairs codes.device_code)) own_endpoint

  abbrev Answered : Type 0
  Answered = PollStep (Tokens AC GC)

  abbrev worth_run : List SeenAnswer → DeviceRun types
  worth_run answers =
      let run = request_run (poll_answer (tokens_read types client.reading)) ask answers in record { reply = poll_reply types client now run.reply; sent = run.sent }

  same_run : (answers : List SeenAnswer) → device_step types login now answers ≡ worth_run answers
  same_run answers =
      step_at types login now answers turn.Poll (due_turn p now is_due)
      ∙ ap (λ o. let run = asked_run (poll_answer (tokens_read types client.reading)) o answers in
      let asked : DeviceRun types = record { reply = poll_reply types client now run.reply; sent = run.sent } in asked) own_ask

  module _ {E : Type 0} (old new : Known) (polled : Result Answered (RequestTokenError E PollError)) (result : Result (DeviceStep AC GC) (DeviceError E))
      (ran : RanForStep ask old new (tokens_read types client.reading) polled)
      (gives : (reply : Result Answered (TokenRefusal PollError)) → Gives token_errors polled reply → Gives device_errors result (poll_reply types client now reply))
      (memory : IfErr polled (λ e. poll_wants e ≡ true → result ≡ Err device.Memory)) where
    abbrev answers : List SeenAnswer
    answers = ran.exchanged.answers

    abbrev Q : Error → Type 0
    Q e = Cause types login now answers e

    abbrev P : DeviceStep AC GC → Type 0
    P s = RestsOn types login now answers s

    excused : (polled : Result Answered (RequestTokenError E PollError)) → IfErr polled (λ e. poll_wants e ≡ true → result ≡ Err device.Memory) → (R : Type 0)
        → IfErr polled (λ e. poll_wants e ≡ true → OrMemory device_errors result R)
    excused (Ok x) wants R = tt
    excused (Err e) wants R = λ is. subst (λ r. OrMemory device_errors r R) (sym (wants is)) tt

    abbrev exchanged : Follows device_errors (device_step types login now) old new result
    exchanged =
        follows_by token_errors device_errors (request_run (poll_answer (tokens_read types client.reading)) ask) (poll_reply types client now)
        (device_step types login now) same_run old new polled result gives (excused polled memory) ran.exchanged

    polled_by : (answered : Answered) → requests.IsHeld ask answers (StepCause (tokens_read types client.reading)) answered → Polled types login now answers answered
    polled_by answered said = record { is_due = is_due; ask = ask; own_ask = own_ask; said = said }

    refused_by : (e : TokenRefusal PollError) → requests.Cause ask answers (PollCause (tokens_read types client.reading)) e → IsPollRefused types login now answers e
    refused_by e cause = record { is_due = is_due; ask = ask; own_ask = own_ask; cause = cause }

    by_memory : (e : RequestTokenError E PollError) (b : Bool) → poll_wants e ≡ b → (poll_wants e ≡ true → result ≡ Err device.Memory)
        → Unless b (requests.Cause ask answers (PollCause (tokens_read types client.reading)) (seen_refusal e))
        → Unless b (Gives device_errors result (Err (device.Token (seen_refusal e)))) → Rests device_errors P Q result
    by_memory e true wants memory cause given = subst (Rests device_errors P Q) (sym (memory wants)) (rests_wanting device_errors P Q device.Memory refl)
    by_memory e false wants memory cause given = rests device_errors P Q _ result (refused_by (seen_refusal e) cause) given

    given_by : (e : RequestTokenError E PollError) (b : Bool) → poll_wants e ≡ b
        → (Gives token_errors {A = Answered} (Err e) (Err (seen_refusal e)) → Gives device_errors result (Err (device.Token (seen_refusal e))))
        → Unless b (Gives device_errors result (Err (device.Token (seen_refusal e))))
    given_by e true wants gives = tt
    given_by e false wants gives = gives (unless (poll_wants e) refl)

    rests_on : (polled : Result Answered (RequestTokenError E PollError))
        → ((reply : Result Answered (TokenRefusal PollError)) → Gives token_errors polled reply → Gives device_errors result (poll_reply types client now reply))
        → IfErr polled (λ e. poll_wants e ≡ true → result ≡ Err device.Memory)
        → IfErr polled (λ e. OrMemory token_errors polled (requests.Cause ask answers (PollCause (tokens_read types client.reading)) (seen_refusal e)))
        → IfOk polled (requests.IsHeld ask answers (StepCause (tokens_read types client.reading))) → Rests device_errors P Q result
    rests_on (Ok answered) gives memory cause held =
        rests device_errors P Q _ result (judged-walk types login now answers answered (polled_by answered held)) (gives (Ok answered) refl)
    rests_on (Err e) gives memory cause held =
        by_memory e (poll_wants e) refl memory cause (given_by e (poll_wants e) refl (gives (Err (seen_refusal e))))

    all : Rests device_errors P Q result
    all = rests_on polled gives memory ran.cause ran.held

    -- ---- back

    own_held : (answered : Answered) → Polled types login now answers answered → requests.IsHeld ask answers (StepCause (tokens_read types client.reading)) answered
    own_held answered x =
        let same : x.ask ≡ ask = let both = sym x.own_ask ∙ own_ask in cc in
        subst (λ a. requests.IsHeld a answers (StepCause (tokens_read types client.reading)) answered) same x.said

    given : (answered : Answered) → Polled types login now answers answered → Gives device_errors result (judged_step types client now answered)
    given answered x = gives (Ok answered) (ran.holds answered (own_held answered x))

    given_as : (answered : Answered) (meant : StepReply AC GC) → Polled types login now answers answered → judged_step types client now answered ≡ meant → Gives device_errors result meant
    given_as answered meant x is = subst (Gives device_errors result) is (given answered x)

    own_cause : (e : TokenRefusal PollError) → IsPollRefused types login now answers e → requests.Cause ask answers (PollCause (tokens_read types client.reading)) e
    own_cause e x =
        let same : x.ask ≡ ask = let both = sym x.own_ask ∙ own_ask in cc in
        subst (λ a. requests.Cause a answers (PollCause (tokens_read types client.reading)) e) same x.cause

    refused : (e : Error) → Cause types login now answers e → Gives device_errors result (Err e)
    refused device.Over c = let no = is_due.not_over in absurd (cc)
    refused device.Expired c = absurd (never_both now p.expiry is_due.unexpired c.expired)
    refused (device.Token e) c = gives (Err e) (ran.refused e (own_cause e c))
    refused device.NoIdToken c = given_as (poll.Done c.tokens) _ c.polled (lacks_back types login now answers c)
    refused (device.Claims kind) c = given_as (poll.Done c.held.tokens) _ c.holds.polled (fails_back types login now answers kind c)
    refused (device.Signing refusal) c = given_as (poll.Done c.held.tokens) _ c.names_hash.accepted.holds.polled (unhashed_back types login now answers refusal c)
    refused device.TokenHash c = given_as (poll.Done c.held.tokens) _ c.names_hash.accepted.holds.polled (other_back types login now answers c)
    refused device.Memory c = absurd c

    answers_so : (s : DeviceStep AC GC) → RestsOn types login now answers s → Gives device_errors result (Ok s)
    answers_so (step.Wait wait) c = absurd (never_waits p now wait is_due c)
    answers_so step.Pending c = given poll.Pending c
    answers_so step.SlowDown c = given poll.SlowDown c
    answers_so (step.Done user) c = given_as (poll.Done c.held.tokens) _ c.holds.polled (signed_back types login now answers user c)

    pub stepped : Stepped types login now old new result
    stepped = record {
      exchanged = exchanged;
      cause = all.cause;
      refused = refused;
      answered = all.held;
      answers_so = answers_so;
    }
