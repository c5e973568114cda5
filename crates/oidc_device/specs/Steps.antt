-- What single functions of a device login answer. No public clause cites this.
use Rattle.std.specs.Prelude.{◌≡◌, ℕ, ℤ, pos, ◌+ℤ◌, List, false, Option, Some, Result, Ok, Err, if◌then◌else◌}
use Rattle.oidc_types.specs.declared.signing_error.SigningError.{SigningError}
use Rattle.oidc_types.specs.declared.signing_error.SigningError.TheVariants as signing
use Rattle.oidc_oauth2.specs.TokenResponse.{whole_seconds}
use Rattle.oidc_oauth2.specs.declared.token_answers.RequestTokenError.{RequestTokenError}
use Rattle.oidc_oauth2.specs.declared.token_answers.RequestTokenError.TheVariants as token_error
use Rattle.oidc_oauth2_requests.specs.RequestAnswers as requests
use Rattle.oidc_tokens.specs.declared.verification.refusals.ClaimsVerificationError.{ClaimsVerificationError}
use Rattle.oidc_tokens.specs.declared.verification.refusals.ClaimsVerificationError.TheVariants as check
use Rattle.oidc_device.specs.Types.{DeviceTypes, SeenDeviceClient}
use Rattle.oidc_oauth2.specs.Replies.{◌>>◌, ◌when◌, ◌for◌}
use Rattle.oidc_device.specs.Token.{Tokens, SeenIdToken, device_verifier, failure_for, claimed_hash, hash_beside, refusal_of_claim, claims_another}
use Rattle.oidc_device.specs.Errors.{Error}
use Rattle.oidc_device.specs.declared.errors.DeviceError.TheVariants.{Claims, Signing, TokenHash}
use Rattle.oidc_device.specs.SignedIn.{signed_by}
use Rattle.oidc_device.specs.Logins.{CoreError, SeenCodes, Polling, due, SeenDeviceLogin, first_login}
use Rattle.oidc_device.specs.DeviceStep.{has_come, seconds_until, user_of_tokens}
use Rattle.oidc_device.specs.declared.clock.Clock.{Clock}
use Rattle.oidc_device.specs.declared.clock.Turn.{Turn}
use Rattle.oidc_device.specs.declared.clock.Turn.TheVariants as turn
use Rattle.oidc_device.specs.declared.errors.StartError.{StartError}
use Rattle.oidc_device.specs.declared.errors.StartError.TheVariants as start
use Rattle.oidc_device.specs.declared.errors.DeviceError.{DeviceError}
use Rattle.oidc_device.specs.declared.errors.DeviceError.TheVariants as device

-- ---- the clock

abbrev pub polling_of : Clock → Polling
polling_of clock = record {
  expiry = clock.expiry;
  last_poll = clock.last_poll.nanosecond;
  interval = clock.interval;
  is_over = clock.is_over;
}

-- the first one, by a start and two spans in nanoseconds
abbrev pub polling_from : ℤ → ℕ → ℕ → Polling
polling_from now expires_in interval = record {
  expiry = now +ℤ pos expires_in;
  last_poll = now;
  interval = whole_seconds interval;
  is_over = false;
}

-- what is due at a moment, by when the next poll is due, and whatever else
abbrev pub poll_turn : ℤ → ℤ → Turn
poll_turn next now = if has_come next now then turn.Poll else turn.Wait (seconds_until next now)

abbrev pub turn_of : Polling → ℤ → Turn
turn_of p now =
    if p.is_over then turn.Over else if has_come p.expiry now then turn.Expired else poll_turn (due p) now

-- ---- refusals

-- the refusal of a start by that of its request
abbrev pub start_of : {E : Type 0} → RequestTokenError E CoreError → StartError E
start_of token_error.Memory = start.Memory
start_of e = start.Device e

-- the refusal of a step by that of its poll
abbrev pub of_poll : {E : Type 0} → RequestTokenError E requests.DeviceError → DeviceError E
of_poll token_error.Memory = device.Memory
of_poll e = device.Token e

-- the refusal of a step by that of the checks of its ID token
abbrev pub check_refusal : {E : Type 0} → ClaimsVerificationError → DeviceError E
check_refusal check.Memory = device.Memory
check_refusal error = device.Claims error

-- a refusal of a hash is the one that is meant, or want of memory
abbrev pub RefusesAs : Option SigningError → SigningError → Type 0
RefusesAs meant signing.Memory = Unit {0}
RefusesAs meant refusal = meant ≡ Some refusal

-- ---- tokens

-- tokens whose ID token, where there is one, passes all checks
abbrev pub PassesChecks : {AC GC Key Use : Type 0} → DeviceTypes AC GC Key Use → SeenDeviceClient Key → ℤ → Tokens AC GC → Type 0
PassesChecks {AC} {GC} types client now tokens =
    (token : SeenIdToken AC GC) → tokens.extra_fields.id_token ≡ Some token
    → user_of_tokens types client now tokens ≡ Ok (signed_by token tokens)

-- the checks of the hash that an ID token claims of the access token beside it
abbrev pub checked_hash : Option (List ℕ) → Result (List ℕ) SigningError → Result (Unit {0}) Error
checked_hash claim hash = do
  Signing for refusal_of_claim claim hash
  TokenHash when claims_another claim hash

-- the checks of an ID token, which came beside this access token
unfoldable pub accepted_token : {AC GC Key Use : Type 0} → DeviceTypes AC GC Key Use → SeenDeviceClient Key → ℤ
    → SeenIdToken AC GC → List ℕ → Result (Unit {0}) Error
accepted_token types client now token access_token = do
  Claims for failure_for types client now token
  checked_hash (claimed_hash token) (hash_beside types (device_verifier types client) token access_token)

-- ---- a start and a step, on the parts of a login

-- the codes, or the refusal of a start, by what came of the request
abbrev pub codes_or_refusal : {E : Type 0} → Result SeenCodes (RequestTokenError E CoreError) → Result SeenCodes (StartError E)
codes_or_refusal (Ok codes) = Ok codes
codes_or_refusal (Err e) = Err (start_of e)

-- a login that starts at this moment, by its codes
abbrev pub started_by : {Key E : Type 0} → SeenDeviceClient Key → ℤ → Result SeenCodes (StartError E)
    → Result (SeenDeviceLogin Key) (StartError E)
started_by client now (Ok codes) = Ok (first_login client now codes)
started_by client now (Err e) = Err e

abbrev pub login_at : {Key : Type 0} → SeenDeviceClient Key → SeenCodes → Polling → SeenDeviceLogin Key
login_at client codes p = record { client = client; codes = codes; polling = p }

abbrev pub login_by : {Key : Type 0} → SeenDeviceClient Key → SeenCodes → Clock → SeenDeviceLogin Key
login_by client codes clock = login_at client codes (polling_of clock)
