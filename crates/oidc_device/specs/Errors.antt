-- Refusals without what the transport's error carries, and what they mean: want of memory, and a fault of the transport.
use Rattle.std.specs.Prelude.{Bool, true, false, Result}
use Rattle.oidc_keys.specs.declared.refusals.SignatureVerificationError.TheVariants as signature
use Rattle.oidc_types.specs.declared.signing_error.SigningError.TheVariants as signing
use Rattle.oidc_oauth2.specs.Replies.{ErrorMeaning, seen_result}
use Rattle.oidc_oauth2.specs.TokenAnswers.{seen_refusal, is_fault}
use Rattle.oidc_oauth2.specs.declared.token_answers.RequestTokenError.TheVariants as token
use Rattle.oidc_tokens.specs.declared.verification.refusals.ClaimsVerificationError.{ClaimsVerificationError}
use Rattle.oidc_tokens.specs.declared.verification.refusals.ClaimsVerificationError.TheVariants as check
use Rattle.oidc_device.specs.declared.errors.StartError.{StartError}
use Rattle.oidc_device.specs.declared.errors.StartError.TheVariants as start
use Rattle.oidc_device.specs.declared.errors.DeviceError.{DeviceError}
use Rattle.oidc_device.specs.declared.errors.DeviceError.TheVariants as device

-- ---- of a start

-- a refusal, whatever the transport's error was
abbrev pub StartRefusal : Type 0
StartRefusal = StartError (Unit {0})

module _ {E : Type 0} where
  abbrev pub seen_start : StartError E → StartRefusal
  seen_start (start.Device e) = start.Device (seen_refusal e)
  seen_start start.Memory = start.Memory

  abbrev pub start_wants_memory : StartError E → Bool
  start_wants_memory start.Memory = true
  start_wants_memory e = false

  -- the transport failed
  abbrev pub start_faulted : StartError E → Bool
  start_faulted (start.Device e) = is_fault e
  start_faulted e = false

  abbrev pub start_errors : ErrorMeaning (StartError E) StartRefusal
  start_errors = record { seen = seen_start; wants_memory = start_wants_memory; is_fault = start_faulted }

  -- want of memory stands inside another refusal
  abbrev pub start_hides_memory : StartError E → Bool
  start_hides_memory (start.Device token.Memory) = true
  start_hides_memory e = false

-- ---- of a step

-- a refusal, whatever the transport's error was
abbrev pub Error : Type 0
Error = DeviceError (Unit {0})

-- a check failed for want of memory
abbrev pub is_wanting : ClaimsVerificationError → Bool
is_wanting (check.SignatureVerification signature.Memory) = true
is_wanting check.Memory = true
is_wanting kind = false

module _ {E : Type 0} where
  abbrev pub seen : DeviceError E → Error
  seen device.Over = device.Over
  seen device.Expired = device.Expired
  seen (device.Token e) = device.Token (seen_refusal e)
  seen device.NoIdToken = device.NoIdToken
  seen (device.Claims kind) = device.Claims kind
  seen (device.Signing e) = device.Signing e
  seen device.TokenHash = device.TokenHash
  seen device.Memory = device.Memory

  abbrev pub step_wants_memory : DeviceError E → Bool
  step_wants_memory device.Memory = true
  step_wants_memory e = false

  -- the transport failed
  abbrev pub faulted : DeviceError E → Bool
  faulted (device.Token e) = is_fault e
  faulted e = false

  abbrev pub device_errors : ErrorMeaning (DeviceError E) Error
  device_errors = record { seen = seen; wants_memory = step_wants_memory; is_fault = faulted }

  -- a result, whatever the transport's error was
  abbrev pub seen_reply : {A : Type 0} → Result A (DeviceError E) → Result A Error
  seen_reply result = seen_result device_errors result

  -- want of memory stands inside another refusal
  abbrev pub hides_memory : DeviceError E → Bool
  hides_memory (device.Token token.Memory) = true
  hides_memory (device.Claims kind) = is_wanting kind
  hides_memory (device.Signing signing.Memory) = true
  hides_memory e = false
