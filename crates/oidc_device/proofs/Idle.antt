-- A step where no poll is due: nothing is sent, and what its result rests on.
use Rattle.std.proofs.Common.{◌≡◌, ℕ, ℤ, List, [], true, Result, Ok, Err, refl, sym, ap, subst, ◌∙◌}
use Rattle.oidc_oauth2.specs.Messages.{SeenAnswer}
use Rattle.oidc_oauth2.specs.Replies.{Gives}
use Rattle.oidc_oauth2.specs.Exchanges.{Known, Follows}
use Rattle.oidc_oauth2.proofs.Runs.{or_known, settled}
use Rattle.oidc_device.specs.Types.{DeviceTypes}
use Rattle.oidc_device.specs.Errors.{Error, device_errors, seen_reply}
use Rattle.oidc_device.specs.Logins.{SeenDeviceLogin}
use Rattle.oidc_device.specs.DeviceStep.{StepReply, DeviceRun, unsent, device_step}
use Rattle.oidc_device.specs.Causes.{HasExpired, Waits, IsDue, RestsOn, Cause}
use Rattle.oidc_device.specs.Runs.{Stepped}
use Rattle.oidc_device.specs.Steps.{turn_of}
use Rattle.oidc_device.specs.declared.clock.Turn.{Turn}
use Rattle.oidc_device.specs.declared.clock.Turn.TheVariants as turn
use Rattle.oidc_device.specs.declared.step.DeviceStep.{DeviceStep}
use Rattle.oidc_device.specs.declared.step.DeviceStep.TheVariants as step
use Rattle.oidc_device.specs.declared.errors.DeviceError.{DeviceError}
use Rattle.oidc_device.specs.declared.errors.DeviceError.TheVariants as device
use Rattle.oidc_device.proofs.Moments.{IsTurn, over_turn, expired_turn, wait_turn, due_turn, turn_facts}
use Rattle.oidc_device.proofs.Walks.{Walk}
use Rattle.oidc_device.proofs.Mapped.{rests}
use Rattle.oidc_device.proofs.Polls.{run_by_turn, step_at}

-- a turn at which no poll is due
abbrev pub IsIdle : Turn → Type 0
IsIdle turn.Poll = ⊥
IsIdle t = Unit {0}

module _ {AC GC : Type 0} where
  -- what is answered then
  abbrev pub idle_reply : Turn → StepReply AC GC
  idle_reply turn.Over = Err device.Over
  idle_reply turn.Expired = Err device.Expired
  idle_reply (turn.Wait wait) = Ok (step.Wait wait)
  idle_reply turn.Poll = Err device.Memory

module _ {AC GC Key Use : Type 0} (types : DeviceTypes AC GC Key Use) (login : SeenDeviceLogin Key) (now : ℤ) where
  idle_run : (answers : List SeenAnswer) (t : Turn) → IsIdle t → run_by_turn types login now answers t ≡ unsent types (idle_reply t)
  idle_run answers turn.Over idle = refl
  idle_run answers turn.Expired idle = refl
  idle_run answers (turn.Wait wait) idle = refl
  idle_run answers turn.Poll idle = absurd idle

  module _ (t : Turn) (is : turn_of login.polling now ≡ t) (idle : IsIdle t) where
    not_due : IsDue login.polling now → ⊥
    not_due x = subst IsIdle (sym is ∙ due_turn login.polling now x) idle

    pub idle_step : (answers : List SeenAnswer) → device_step types login now answers ≡ unsent types (idle_reply t)
    idle_step answers = step_at types login now answers t is ∙ idle_run answers t idle

    by_over : login.polling.is_over ≡ true → ◌≡◌ {A = StepReply AC GC} (Err device.Over) (idle_reply t)
    by_over x = ap idle_reply (sym (over_turn login.polling now x) ∙ is)

    by_expired : HasExpired login.polling now → ◌≡◌ {A = StepReply AC GC} (Err device.Expired) (idle_reply t)
    by_expired x = ap idle_reply (sym (expired_turn login.polling now x) ∙ is)

    by_wait : (wait : ℕ) → Waits login.polling now wait → ◌≡◌ {A = StepReply AC GC} (Ok (step.Wait wait)) (idle_reply t)
    by_wait wait x = ap idle_reply (sym (wait_turn login.polling now wait x) ∙ is)

    module _ (answers : List SeenAnswer) where
      refused : (e : Error) → Cause types login now answers e → ◌≡◌ {A = StepReply AC GC} (Err e) (idle_reply t)
      refused device.Over c = by_over c
      refused device.Expired c = by_expired c
      refused (device.Token e) c = absurd (not_due c.is_due)
      refused device.NoIdToken c = absurd (not_due c.polled.is_due)
      refused (device.Claims kind) c = absurd (not_due c.holds.polled.is_due)
      refused (device.Signing refusal) c = absurd (not_due c.names_hash.accepted.holds.polled.is_due)
      refused device.TokenHash c = absurd (not_due c.names_hash.accepted.holds.polled.is_due)
      refused device.Memory c = absurd c

      answers_so : (s : DeviceStep AC GC) → RestsOn types login now answers s → ◌≡◌ {A = StepReply AC GC} (Ok s) (idle_reply t)
      answers_so (step.Wait wait) c = by_wait wait c
      answers_so step.Pending c = absurd (not_due c.is_due)
      answers_so step.SlowDown c = absurd (not_due c.is_due)
      answers_so (step.Done user) c = absurd (not_due c.holds.polled.is_due)

  facts_at : (t : Turn) → turn_of login.polling now ≡ t → IsTurn login.polling now t
  facts_at t is = subst (IsTurn login.polling now) is (turn_facts login.polling now)

  idle-walk : (answers : List SeenAnswer) (t : Turn) → IsTurn login.polling now t → IsIdle t → Walk (RestsOn types login now answers) (Cause types login now answers) (idle_reply t)
  idle-walk answers turn.Over fact idle = fact
  idle-walk answers turn.Expired fact idle = fact
  idle-walk answers (turn.Wait wait) fact idle = fact
  idle-walk answers turn.Poll fact idle = absurd idle

  pub idle_stepped : {E : Type 0} (known : Known) (t : Turn) → turn_of login.polling now ≡ t → IsIdle t
      → (result : Result (DeviceStep AC GC) (DeviceError E)) → seen_reply result ≡ idle_reply t → Stepped types login now known known result
  idle_stepped known t is idle result own =
      let given : Gives device_errors result (idle_reply t) = or_known device_errors result (sym own) in
      let idling = idle_step t is idle [] in
      let exchanged : Follows device_errors (device_step types login now) known known result =
      settled device_errors (device_step types login now) known result (or_known device_errors result (ap (λ (r : DeviceRun types). r.sent) idling))
      (subst (Gives device_errors result) (sym (ap (λ (r : DeviceRun types). r.reply) idling)) given) in
      let came = exchanged.answers in
      let all =
      rests device_errors (RestsOn types login now came) (Cause types login now came) (idle_reply t) result (idle-walk came t (facts_at t is) idle) given in
      record {
        exchanged = exchanged;
        cause = all.cause;
        refused = λ e c. subst (Gives device_errors result) (sym (refused t is idle came e c)) given;
        answered = all.held;
        answers_so = λ s c. subst (Gives device_errors result) (sym (answers_so t is idle came s c)) given;
      }
