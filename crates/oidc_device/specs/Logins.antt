-- What contracts see of a device login, its first state, and the two requests of it (RFC 8628 sections 3.1, 3.2 and 3.4).
use Rattle.std.specs.Prelude.{ℕ, ℤ, pos, ◌+ℤ◌, List, [], Bool, false, Option, None, Some, option_map, Result, Ok, Err, refl}
use Rattle.std.specs.Coded.{Coded, code_by, coded×, coded_ℕ, coded_ℤ, coded_bool}
use Rattle.oidc_members.specs.Seen.{SeenMember}
use Rattle.oidc_members.specs.declared.refusal.Refusal.{Refusal}
use Rattle.oidc_oauth2.specs.Messages.{SeenResponse, SeenAnswer}
use Rattle.oidc_oauth2.specs.Words.{error_of}
use Rattle.oidc_oauth2.specs.Exchanges.{Run}
use Rattle.oidc_oauth2.specs.ErrorResponse.{SeenError, error_response_of}
use Rattle.oidc_oauth2.specs.TokenResponse.{seconds, whole_seconds}
use Rattle.oidc_oauth2.specs.TokenAnswers.{TokenRefusal, token_answer}
use Rattle.oidc_oauth2.specs.DeviceResponse.{SeenDevice, device_of}
use Rattle.oidc_oauth2.specs.declared.error_types.CoreErrorResponseType.{CoreErrorResponseType}
use Rattle.oidc_oauth2.specs.declared.extra_fields.EmptyExtraDeviceAuthorizationFields.{EmptyExtraDeviceAuthorizationFields}
use Rattle.oidc_oauth2.specs.declared.token_answers.OtherCause.TheVariants.{Uri}
use Rattle.oidc_oauth2.specs.declared.token_answers.RequestTokenError.TheVariants.{Other}
use Rattle.oidc_oauth2_requests.specs.FormRequests.{SeenFormRequest, device_code_pairs}
use Rattle.oidc_oauth2_requests.specs.RequestRuns.{request_run}
use Rattle.oidc_client.specs.Client.{device_request_at, token_request_at}
use Rattle.oidc_device.specs.Types.{SeenDeviceClient}
use Rattle.oidc_device.specs.Errors.{StartRefusal}
use Rattle.oidc_device.specs.declared.errors.StartError.TheVariants.{Device}

-- ---- a login

-- the codes of a device, and how long they are good
abbrev pub SeenCodes : Type 0
SeenCodes = SeenDevice EmptyExtraDeviceAuthorizationFields

-- When a device may poll. Moments are in nanoseconds since the Unix epoch.
pub record Polling : Type 0 where
  pub expiry : ℤ
  -- the last moment at which a poll was due and a step was made, and the start at first
  pub last_poll : ℤ
  -- the seconds between two polls
  pub interval : ℕ
  pub is_over : Bool

-- when the next poll is due
abbrev pub due : Polling → ℤ
due p = p.last_poll +ℤ pos (seconds p.interval)

pub record SeenDeviceLogin (Key : Type 0) : Type 0 where
  pub client : SeenDeviceClient Key
  pub codes : SeenCodes
  pub polling : Polling

-- the first state, by the codes that came for a start at this moment
abbrev pub first_polling : SeenCodes → ℤ → Polling
first_polling codes start = record {
  expiry = start +ℤ pos codes.expires_in;
  last_poll = start;
  interval = whole_seconds codes.interval;
  is_over = false;
}

abbrev pub first_login : {Key : Type 0} → SeenDeviceClient Key → ℤ → SeenCodes → SeenDeviceLogin Key
first_login client start codes = record { client = client; codes = codes; polling = first_polling codes start }

-- ---- its requests

-- the client's request for the codes of a device
abbrev pub codes_ask : {Key : Type 0} → SeenDeviceClient Key → Option SeenFormRequest
codes_ask client = option_map (device_request_at client) client.device_authorization_url

-- the client's request for the tokens, by the device code
abbrev pub poll_ask : {Key : Type 0} → SeenDeviceLogin Key → Option SeenFormRequest
poll_ask login =
    option_map (token_request_at login.client (device_code_pairs login.codes.device_code)) login.client.token_uri

-- What a request is answered and sends. (A client of a device login has both endpoints, by its type.)
abbrev pub asked_run : {A TE : Type 0} → (SeenResponse → Result A (TokenRefusal TE)) → Option SeenFormRequest
    → List SeenAnswer → Run A (TokenRefusal TE)
asked_run worth None answers = record { reply = Err (Other Uri); sent = [] }
asked_run worth (Some ask) answers = request_run worth ask answers

-- a run that is answered by what another is
abbrev pub answered_by : {A B F G : Type 0} → (Result A F → Result B G) → Run A F → Run B G
answered_by reply run = record { reply = reply run.reply; sent = run.sent }

-- ---- a start: the codes that the answer holds, or why there are none

abbrev pub CoreError : Type 0
CoreError = SeenError CoreErrorResponseType

abbrev pub error_read : List SeenMember → Result CoreError Refusal
error_read = error_response_of error_of

abbrev pub no_others : List SeenMember → Result EmptyExtraDeviceAuthorizationFields Refusal
no_others members = Ok (record {})

abbrev pub codes_read : List SeenMember → Result SeenCodes Refusal
codes_read = device_of no_others

module _ {Key : Type 0} (client : SeenDeviceClient Key) (start : ℤ) where
  -- the login, by what came of the request
  abbrev pub start_reply : Result SeenCodes (TokenRefusal CoreError) → Result (SeenDeviceLogin Key) StartRefusal
  start_reply (Ok codes) = Ok (first_login client start codes)
  start_reply (Err e) = Err (Device e)

  -- what a start at this moment answers and sends
  abbrev pub start_run : List SeenAnswer → Run (SeenDeviceLogin Key) StartRefusal
  start_run answers =
      answered_by start_reply (asked_run (token_answer error_read codes_read) (codes_ask client) answers)

-- ---- how the logic stores them

abbrev pub polling_code : Coded Polling
polling_code =
    code_by (ℤ × (ℤ × (ℕ × Bool))) (coded× coded_ℤ (coded× coded_ℤ (coded× coded_ℕ coded_bool)))
    (λ p. (p.expiry, (p.last_poll, (p.interval, p.is_over))))
    (λ p. record { expiry = p.0; last_poll = p.1.0; interval = p.1.1.0; is_over = p.1.1.1 }) (λ _. refl)
