-- What a start and a step leave of any transport, and what their results rest on.
use Rattle.std.specs.Prelude.{ℤ, Result, Ok, Err, IfOk, IfErr}
use Rattle.oidc_oauth2.specs.Replies.{Unless, Gives}
use Rattle.oidc_oauth2.specs.Exchanges.{Known, Follows}
use Rattle.oidc_device.specs.Types.{DeviceTypes, SeenDeviceClient}
use Rattle.oidc_device.specs.Errors.{StartRefusal, seen_start, start_wants_memory, start_errors, Error, seen, step_wants_memory, device_errors}
use Rattle.oidc_device.specs.Logins.{SeenDeviceLogin, start_run}
use Rattle.oidc_device.specs.DeviceStep.{device_step}
use Rattle.oidc_device.specs.Causes.{StartCause, IsStarted, RestsOn, Cause}
use Rattle.oidc_device.specs.declared.step.DeviceStep.{DeviceStep}
use Rattle.oidc_device.specs.declared.errors.StartError.{StartError}
use Rattle.oidc_device.specs.declared.errors.DeviceError.{DeviceError}

-- For some answers, which are those that came where the transport keeps a log: the one request was handed over, or
-- nothing, and the result is that of a start, or want of memory.
pub record Started {Key E : Type 0} (client : SeenDeviceClient Key) (now : ℤ) (before after : Known)
    (result : Result (SeenDeviceLogin Key) (StartError E)) : Type 0 where
  pub exchanged : Follows start_errors (start_run client now) before after result
  -- each refusal has its cause, and each cause its refusal
  pub cause : IfErr result (λ e. Unless (start_wants_memory e) (StartCause client exchanged.answers (seen_start e)))
  pub refused : (e : StartRefusal) → StartCause client exchanged.answers e → Gives start_errors result (Err e)
  -- an Ok is the first state by the codes that came, and codes that came are an Ok
  pub started : IfOk result (IsStarted client exchanged.answers now)
  pub starts : (login : SeenDeviceLogin Key) → IsStarted client exchanged.answers now login → Gives start_errors result (Ok login)

module _ {AC GC Key Use : Type 0} (types : DeviceTypes AC GC Key Use) where
  -- The same of a step at this moment: its one request was handed over, or nothing, and the result is that of the table,
  -- or want of memory.
  pub record Stepped {E : Type 0} (login : SeenDeviceLogin Key) (now : ℤ) (before after : Known)
      (result : Result (DeviceStep AC GC) (DeviceError E)) : Type 0 where
    pub exchanged : Follows device_errors (device_step types login now) before after result
    -- each refusal has its cause, and each cause its refusal
    pub cause : IfErr result (λ e. Unless (step_wants_memory e) (Cause types login now exchanged.answers (seen e)))
    pub refused : (e : Error) → Cause types login now exchanged.answers e → Gives device_errors result (Err e)
    -- each answer has what it rests on, and what rests on that is the answer
    pub answered : IfOk result (RestsOn types login now exchanged.answers)
    pub answers_so : (step : DeviceStep AC GC) → RestsOn types login now exchanged.answers step → Gives device_errors result (Ok step)
