-- Each turn of each run is polite: by the state before it, and that by the turns so far.
use Rattle.std.proofs.Common.{◌≡◌, ℕ, ℤ, List, [], ◌∷◌, ◌++◌, Bool, true, false, cond, Option, None, Some, Result, Ok, Err, refl, sym, ap, subst, ◌∙◌, inl, inr}
use Rattle.std.specs.Prelude.{◌↔◌, ◌⊎◌, ◌||◌}
use Rattle.std.proofs.lemmas.Bool.{true≢false, false≢true}
use Rattle.oidc_oauth2.specs.Messages.{SeenRequest, SeenResponse, SeenAnswer}
use Rattle.oidc_oauth2.specs.Replies.{◌or◌}
use Rattle.oidc_oauth2.specs.Exchanges.{reply_by, one_request}
use Rattle.oidc_oauth2.specs.TokenAnswers.{TokenRefusal}
use Rattle.oidc_oauth2.specs.declared.token_answers.OtherCause.TheVariants.{Uri}
use Rattle.oidc_oauth2.specs.declared.token_answers.RequestTokenError.TheVariants as token_error
use Rattle.oidc_oauth2_requests.specs.FormRequests.{SeenFormRequest, form_request}
use Rattle.oidc_oauth2_requests.specs.RequestAnswers.{DeviceError as PollError, poll_answer}
use Rattle.oidc_oauth2_requests.specs.declared.device.PollStep.{PollStep}
use Rattle.oidc_oauth2_requests.specs.declared.device.PollStep.TheVariants as poll
use Rattle.oidc_device.specs.Types.{DeviceTypes, SeenDeviceClient}
use Rattle.oidc_device.specs.Token.{Tokens, tokens_read, failure_for, hash_refusal, has_another_hash}
use Rattle.oidc_device.specs.Errors.{Error}
use Rattle.oidc_device.specs.Logins.{Polling, SeenDeviceLogin, first_login, poll_ask, asked_run}
use Rattle.oidc_device.specs.DeviceStep.{StepReply, DeviceRun, user_of_tokens, judged_step, poll_reply, poll_run, polling_after, login_after, device_step}
use Rattle.oidc_device.specs.Causes.{HasExpired, Waits, IsDue}
use Rattle.oidc_device.specs.Steps.{turn_of}
use Rattle.oidc_device.specs.Polite.{Outcome, answered, wanting_before, wanting_after, TimedStep, Turn, polls, ends, in_want, run_by, turn_by, turns_from, last_poll_so_far, interval_after, interval_so_far, has_ended, Polite}
use Rattle.oidc_device.specs.declared.clock.Turn.{Turn as Due}
use Rattle.oidc_device.specs.declared.clock.Turn.TheVariants as dues
use Rattle.oidc_device.specs.declared.step.DeviceStep.TheVariants as step
use Rattle.oidc_device.specs.declared.errors.DeviceError.TheVariants as device
use Rattle.oidc_device.proofs.Walks.{Walk, at_or, at_when, at_for, at_value}
use Rattle.oidc_device.proofs.Moments.{IsTurn, turn_facts, never_both, never_waits, same_wait}
use Rattle.oidc_device.proofs.Polls.{run_by_turn, step_at}

never : {P : Type 0} (b : Bool) → b ≡ true → b ≡ false → P
never b is isnt = absurd (true≢false (sym is ∙ isnt))

-- ---- one turn, by the state before it

-- no request, or the one of polling
abbrev pub OwnRequest : {Key : Type 0} → SeenDeviceLogin Key → List SeenRequest → Type 0
OwnRequest login sent =
    (sent ≡ []) ⊎
    ((ask : SeenFormRequest) × (request : SeenRequest) × (poll_ask login ≡ Some ask) × (form_request ask ≡ Some request) × (sent ≡ request ∷ []))

module _ {AC GC : Type 0} where
  -- why a poll sends nothing
  abbrev pub Unsent : StepReply AC GC → Type 0
  Unsent reply = (reply ≡ Err device.Memory) ⊎ (reply ≡ Err (device.Token (token_error.Other Uri)))

  -- it is what the state has it be
  pub record IsFair {Key : Type 0} (login : SeenDeviceLogin Key) (turn : Turn AC GC) : Type 0 where
    pub polls_when_due : (polls turn.reply ≡ true) ↔ IsDue login.polling turn.now
    pub waits : (wait : ℕ) → (turn.reply ≡ Ok (step.Wait wait)) ↔ Waits login.polling turn.now wait
    pub expired : (turn.reply ≡ Err device.Expired) ↔ HasExpired login.polling turn.now
    pub over : (turn.reply ≡ Err device.Over) ↔ (login.polling.is_over ≡ true)
    pub sent_at_polls : polls turn.reply ≡ false → turn.sent ≡ []
    pub own_request : OwnRequest login turn.sent
    pub sends : polls turn.reply ≡ true → turn.sent ≡ [] → Unsent turn.reply

module _ {AC GC Key Use : Type 0} (types : DeviceTypes AC GC Key Use) where
  -- ---- a poll

  abbrev Polls : Error → Type 0
  Polls e = polls {AC = AC} {GC = GC} (Err e) ≡ true

  user_polls : (client : SeenDeviceClient Key) (now : ℤ) (tokens : Tokens AC GC) → Walk (λ user. Unit {0}) Polls (user_of_tokens types client now tokens)
  unfolding user_of_tokens
  user_polls client now tokens =
      at_or (λ user. Unit {0}) Polls tokens.extra_fields.id_token _ _ (λ none. refl) (λ token own.
      at_for (λ user. Unit {0}) Polls (failure_for types client now token) _ _ (λ kind is. refl) (λ none_fails.
      at_for (λ user. Unit {0}) Polls (hash_refusal types client token tokens.access_token) _ _ (λ refusal is. refl) (λ hashed.
      at_when (λ user. Unit {0}) Polls (has_another_hash types client token tokens.access_token) _ _ (λ other. refl) (λ same. tt))))

  polls_of : (reply : StepReply AC GC) → Walk (λ s. polls {AC = AC} {GC = GC} (Ok s) ≡ true) Polls reply → polls reply ≡ true
  polls_of (Ok s) known = known
  polls_of (Err e) known = known

  judged_polls : (client : SeenDeviceClient Key) (now : ℤ) (said : PollStep (Tokens AC GC)) → polls (judged_step types client now said) ≡ true
  judged_polls client now poll.Pending = refl
  judged_polls client now poll.SlowDown = refl
  judged_polls client now (poll.Done tokens) =
      polls_of _ (at_value (λ user. Unit {0}) (λ s. polls {AC = AC} {GC = GC} (Ok s) ≡ true) Polls (user_of_tokens types client now tokens) _ (user_polls client now tokens) (λ user known. refl))

  reply_polls : (client : SeenDeviceClient Key) (now : ℤ) (polled : Result (PollStep (Tokens AC GC)) (TokenRefusal PollError)) → polls (poll_reply types client now polled) ≡ true
  reply_polls client now (Ok said) = judged_polls client now said
  reply_polls client now (Err e) = refl

  abbrev turn_at : ℤ → DeviceRun types → Turn AC GC
  turn_at now run = record { now = now; reply = run.reply; sent = run.sent }

  module _ (login : SeenDeviceLogin Key) (now : ℤ) (answers : List SeenAnswer) where
    abbrev worth : SeenResponse → Result (PollStep (Tokens AC GC)) (TokenRefusal PollError)
    worth = poll_answer (tokens_read types login.client.reading)

    abbrev reply_to : Result (PollStep (Tokens AC GC)) (TokenRefusal PollError) → StepReply AC GC
    reply_to polled = poll_reply types login.client now polled

    sent_by : (ask : SeenFormRequest) → poll_ask login ≡ Some ask → (made : Option SeenRequest) → form_request ask ≡ made
        → OwnRequest login (one_request (reply_by (token_error.Request tt) worth) (made or token_error.Other Uri) answers).sent
    sent_by ask own None none = inl refl
    sent_by ask own (Some request) made = inr (ask, request, own, made, refl)

    asked_sent : (o : Option SeenFormRequest) → poll_ask login ≡ o → OwnRequest login (asked_run worth o answers).sent
    asked_sent None none = inl refl
    asked_sent (Some ask) own = sent_by ask own (form_request ask) refl

    unsent_by : (made : Option SeenRequest) → (one_request (reply_by (token_error.Request tt) worth) (made or token_error.Other Uri) answers).sent ≡ []
        → Unsent (reply_to (one_request (reply_by (token_error.Request tt) worth) (made or token_error.Other Uri) answers).reply)
    unsent_by None none = inr refl
    unsent_by (Some request) none = absurd (cc)

    asked_unsent : (o : Option SeenFormRequest) → (asked_run worth o answers).sent ≡ [] → Unsent (reply_to (asked_run worth o answers).reply)
    asked_unsent None none = inr refl
    asked_unsent (Some ask) none = unsent_by (form_request ask) none

    poll_fair : IsDue login.polling now → IsFair login (turn_at now (poll_run types login now answers))
    poll_fair is_due =
        let does : polls (poll_run types login now answers).reply ≡ true = reply_polls login.client now (asked_run worth (poll_ask login) answers).reply in record {
          polls_when_due = (λ polled. is_due, λ due. does);
          waits = λ wait. (λ is. never _ does (ap polls is), λ x. absurd (never_waits login.polling now wait is_due x));
          expired = (λ is. never _ does (ap polls is), λ x. absurd (never_both now login.polling.expiry is_due.unexpired x.expired));
          over = (λ is. never _ does (ap polls is), λ is. never _ is is_due.not_over);
          sent_at_polls = λ none. never _ does none;
          own_request = asked_sent (poll_ask login) refl;
          sends = λ polled none. asked_unsent (poll_ask login) none;
        }

    -- ---- a step, by what is due

    at_turn : (t : Due) → IsTurn login.polling now t → IsFair login (turn_at now (run_by_turn types login now answers t))
    at_turn dues.Over fact = record {
      polls_when_due = (λ polled. absurd (false≢true polled), λ due. never _ fact due.not_over);
      waits = λ wait. (λ is. absurd (cc), λ x. never _ fact x.not_over);
      expired = (λ is. absurd (cc), λ x. never _ fact x.not_over);
      over = (λ is. fact, λ is. refl);
      sent_at_polls = λ none. refl;
      own_request = inl refl;
      sends = λ polled none. absurd (false≢true polled);
    }
    at_turn dues.Expired fact = record {
      polls_when_due = (λ polled. absurd (false≢true polled), λ due. absurd (never_both now login.polling.expiry due.unexpired fact.expired));
      waits = λ wait. (λ is. absurd (cc), λ x. absurd (never_both now login.polling.expiry x.unexpired fact.expired));
      expired = (λ is. fact, λ x. refl);
      over = (λ is. absurd (cc), λ is. never _ is fact.not_over);
      sent_at_polls = λ none. refl;
      own_request = inl refl;
      sends = λ polled none. absurd (false≢true polled);
    }
    at_turn (dues.Wait left) fact = record {
      polls_when_due = (λ polled. absurd (false≢true polled), λ due. absurd (never_waits login.polling now left due fact));
      waits = λ wait. (λ is. let same : left ≡ wait = cc in subst (Waits login.polling now) same fact, λ x. ap (λ n. Ok (step.Wait n)) (same_wait login.polling now left wait fact x));
      expired = (λ is. absurd (cc), λ x. absurd (never_both now login.polling.expiry fact.unexpired x.expired));
      over = (λ is. absurd (cc), λ is. never _ is fact.not_over);
      sent_at_polls = λ none. refl;
      own_request = inl refl;
      sends = λ polled none. absurd (false≢true polled);
    }
    at_turn dues.Poll fact = poll_fair fact

    step_fair : IsFair login (turn_at now (device_step types login now answers))
    step_fair =
        subst (λ run. IsFair login (turn_at now run)) (sym (step_at types login now answers _ refl)) (at_turn (turn_of login.polling now) (turn_facts login.polling now))

  -- ---- want of memory

  wanting_by : (login : SeenDeviceLogin Key) (now : ℤ) (meant : DeviceRun types) (sent : List SeenRequest) → IsFair login (turn_at now meant) → OwnRequest login sent
      → (b : Bool) → polls meant.reply ≡ b → IsFair login (turn_at now (cond b (in_want types sent) meant))
  wanting_by login now meant sent fair own true polled =
      let is_due = fair.polls_when_due.0 polled in record {
        polls_when_due = (λ again. is_due, λ due. refl);
        waits = λ wait. (λ is. absurd (cc), λ x. absurd (never_waits login.polling now wait is_due x));
        expired = (λ is. absurd (cc), λ x. absurd (never_both now login.polling.expiry is_due.unexpired x.expired));
        over = (λ is. absurd (cc), λ is. never _ is is_due.not_over);
        sent_at_polls = λ none. absurd (true≢false none);
        own_request = own;
        sends = λ again none. inl refl;
      }
  wanting_by login now meant sent fair own false polled = fair

  run_fair : (login : SeenDeviceLogin Key) (now : ℤ) (outcome : Outcome) → IsFair login (turn_at now (run_by types login now outcome))
  run_fair login now (answered answer) = step_fair login now (answer ∷ [])
  run_fair login now wanting_before = wanting_by login now (device_step types login now []) [] (step_fair login now []) (inl refl) _ refl
  run_fair login now wanting_after =
      let fair = step_fair login now [] in
      wanting_by login now (device_step types login now []) (device_step types login now []).sent fair fair.own_request _ refl

-- ---- the state after an answer

or_false : (b : Bool) → b ≡ (b || false)
or_false true = refl
or_false false = refl

or_true : (b : Bool) → true ≡ (b || true)
or_true true = refl
or_true false = refl

or_same : (a b c : Bool) → ((a || b) || c) ≡ (a || (b || c))
or_same true b c = refl
or_same false b c = refl

-- what an answer leaves of a state, said by the answer
record Leaves {AC GC : Type 0} (now : ℤ) (p after : Polling) (reply : StepReply AC GC) : Type 0 where
  pub expiry : after.expiry ≡ p.expiry
  pub last : after.last_poll ≡ cond (polls reply) now p.last_poll
  pub interval : after.interval ≡ interval_after p.interval reply
  pub over : after.is_over ≡ (p.is_over || ends reply)

module _ {AC GC : Type 0} (now : ℤ) (p : Polling) where
  abbrev Left : StepReply AC GC → Type 0
  Left reply = Leaves now p (polling_after now p reply) reply

  refused_left : (e : Error) → Left (Err e)
  refused_left device.Over = record { expiry = refl; last = refl; interval = refl; over = or_false p.is_over }
  refused_left device.Expired = record { expiry = refl; last = refl; interval = refl; over = or_true p.is_over }
  refused_left (device.Token (token_error.Request cause)) = record { expiry = refl; last = refl; interval = refl; over = or_false p.is_over }
  refused_left (device.Token (token_error.ServerResponse error)) = record { expiry = refl; last = refl; interval = refl; over = or_true p.is_over }
  refused_left (device.Token (token_error.Parse refusal body)) = record { expiry = refl; last = refl; interval = refl; over = or_true p.is_over }
  refused_left (device.Token (token_error.Other cause)) = record { expiry = refl; last = refl; interval = refl; over = or_true p.is_over }
  refused_left (device.Token (token_error.TooLong body)) = record { expiry = refl; last = refl; interval = refl; over = or_true p.is_over }
  refused_left (device.Token token_error.Memory) = record { expiry = refl; last = refl; interval = refl; over = or_true p.is_over }
  refused_left device.NoIdToken = record { expiry = refl; last = refl; interval = refl; over = or_true p.is_over }
  refused_left (device.Claims kind) = record { expiry = refl; last = refl; interval = refl; over = or_true p.is_over }
  refused_left (device.Signing refusal) = record { expiry = refl; last = refl; interval = refl; over = or_true p.is_over }
  refused_left device.TokenHash = record { expiry = refl; last = refl; interval = refl; over = or_true p.is_over }
  refused_left device.Memory = record { expiry = refl; last = refl; interval = refl; over = or_false p.is_over }

  left : (reply : StepReply AC GC) → Left reply
  left (Ok (step.Wait wait)) = record { expiry = refl; last = refl; interval = refl; over = or_false p.is_over }
  left (Ok step.Pending) = record { expiry = refl; last = refl; interval = refl; over = or_false p.is_over }
  left (Ok step.SlowDown) = record { expiry = refl; last = refl; interval = refl; over = or_false p.is_over }
  left (Ok (step.Done user)) = record { expiry = refl; last = refl; interval = refl; over = or_true p.is_over }
  left (Err e) = refused_left e

-- ---- the state after turns, by their answers

module _ {AC GC : Type 0} where
  abbrev pub after_turns : Polling → List (Turn AC GC) → Polling
  after_turns p turns = record {
    expiry = p.expiry;
    last_poll = last_poll_so_far p.last_poll turns;
    interval = interval_so_far p.interval turns;
    is_over = p.is_over || has_ended turns;
  }

  after_turn : (p : Polling) (turn : Turn AC GC) (rest : List (Turn AC GC)) → after_turns (polling_after turn.now p turn.reply) rest ≡ after_turns p (turn ∷ rest)
  after_turn p turn rest =
      let l = left turn.now p turn.reply in
      let over = ap (λ b. b || has_ended rest) l.over ∙ or_same p.is_over (ends turn.reply) (has_ended rest) in λ i. record {
        expiry = l.expiry i;
        last_poll = last_poll_so_far (l.last i) rest;
        interval = interval_so_far (l.interval i) rest;
        is_over = over i;
      }

module _ (AC GC : Type 0) where
  after_none : (p : Polling) → p ≡ after_turns {AC = AC} {GC = GC} p []
  after_none p = λ i. record { expiry = p.expiry; last_poll = p.last_poll; interval = p.interval; is_over = or_false p.is_over i }

abbrev pub login_at : {Key : Type 0} → SeenDeviceLogin Key → Polling → SeenDeviceLogin Key
login_at login p = record { client = login.client; codes = login.codes; polling = p }

module _ {AC GC Key Use : Type 0} (types : DeviceTypes AC GC Key Use) where
  -- each turn of a run from any state
  from_any : (login : SeenDeviceLogin Key) (steps : List TimedStep) (earlier : List (Turn AC GC)) (turn : Turn AC GC) (later : List (Turn AC GC))
      → turns_from types login steps ≡ (earlier ++ turn ∷ later) → IsFair (login_at login (after_turns login.polling earlier)) turn
  from_any login [] [] turn later is = absurd (cc)
  from_any login [] (t ∷ rest) turn later is = absurd (cc)
  from_any login (s ∷ steps) [] turn later is =
      let head : turn_by types login s ≡ turn = cc in
      subst (IsFair (login_at login (after_turns {AC = AC} {GC = GC} login.polling []))) head
      (subst (λ p. IsFair (login_at login p) (turn_by types login s)) (after_none AC GC login.polling) (run_fair types login s.now s.outcome))
  from_any login (s ∷ steps) (t ∷ rest) turn later is =
      let first = turn_by types login s in
      let head : first ≡ t = cc in
      let tail : turns_from types (login_after s.now login first.reply) steps ≡ (rest ++ turn ∷ later) = cc in
      subst (λ t. IsFair (login_at login (after_turns login.polling (t ∷ rest))) turn) head
      (subst (λ p. IsFair (login_at login p) turn) (after_turn login.polling first rest)
      (from_any (login_after s.now login first.reply) steps rest turn later tail))

  ended_silent : (reply : StepReply AC GC) → reply ≡ Err device.Over → ends reply ≡ false
  ended_silent reply is = ap ends is

  pub polite : Polite types
  polite client codes start steps earlier turn later is =
      let fair = from_any (first_login client start codes) steps earlier turn later is in record {
        polls_when_due = fair.polls_when_due;
        waits = fair.waits;
        expired = fair.expired;
        over = fair.over;
        ends_once = λ ended. ended_silent turn.reply (fair.over.1 ended);
        sent_at_polls = fair.sent_at_polls;
        own_request = fair.own_request;
        sends = fair.sends;
      }
