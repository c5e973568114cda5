-- The report of a script: its lines, and which of them it has.
use Rattle.std.specs.Prelude.{◌≡◌, ℕ, ◌-◌, List, [], ◌∷◌, ◌++◌, map, take, Option, None, Some, Result, Ok, Err, IfSome, false, if◌then◌else◌, bytes_eq, codes, decimal}
use Rattle.std.specs.FinMap as finite
use Rattle.url.specs.Parts.{Parts, serialize}
use Rattle.http_header.specs.HeaderMap.{get}
use Rattle.http_header.specs.FieldValue.{FieldValue}
use Rattle.oidc_pairs.specs.Form.{form, escaped}
use Rattle.oidc_members.specs.Write.{any_float}
use Rattle.oidc_members.specs.declared.refusal.Refusal.{Refusal}
use Rattle.oidc_members.specs.declared.refusal.ParseKind.{ParseKind}
use Rattle.oidc_members.specs.declared.refusal.ParseKind.TheVariants as parse_kind
use Rattle.oidc_types.specs.CoreAuthorization.{auth_error_text}
use Rattle.oidc_claims.specs.Others.{Others, list_of}
use Rattle.oidc_keys.specs.declared.refusals.SignatureVerificationError.{SignatureVerificationError}
use Rattle.oidc_keys.specs.declared.refusals.SignatureVerificationError.TheVariants as signature
use Rattle.oidc_tokens.specs.declared.verification.refusals.ClaimsVerificationError.{ClaimsVerificationError}
use Rattle.oidc_tokens.specs.declared.verification.refusals.ClaimsVerificationError.TheVariants as check
use Rattle.oidc_oauth2.specs.Messages.{SeenRequest}
use Rattle.oidc_oauth2.specs.Words.{error_text}
use Rattle.oidc_oauth2.specs.declared.token_answers.OtherCause.TheVariants as other
use Rattle.oidc_oauth2.specs.declared.token_answers.RequestTokenError.TheVariants as token_error
use Rattle.oidc_user_info.specs.InfoErrors.{InfoRefusal}
use Rattle.oidc_user_info.specs.declared.errors.InfoOther.TheVariants as info_other
use Rattle.oidc_user_info.specs.declared.errors.ResponseCause.TheVariants as info_cause
use Rattle.oidc_user_info.specs.declared.errors.UserInfoError.TheVariants as info_error
use Rattle.oidc_login.specs.declared.errors.BeginError.{BeginError}
use Rattle.oidc_login.specs.declared.errors.BeginError.TheVariants as begin
use Rattle.oidc_login.specs.declared.errors.TooLong.{TooLong}
use Rattle.oidc_login.specs.declared.errors.TooLong.TheVariants as place
use Rattle.oidc_login.specs.declared.errors.LoginError.TheVariants as login
use Rattle.oidc_login.specs.Token.{TokenError}
use Rattle.oidc_login.specs.Errors.{Error}
use Rattle.oidc_login.specs.Logins.{Pending}
use Rattle.oidc_login.specs.Events as runs
use Rattle.oidc_cli.specs.Types.{types, SeenSignedIn, SeenUserInfo, claims_text, user_info_text}
use Rattle.oidc_cli.specs.Script.{lines, event_of, fault_of}
use Rattle.oidc_cli.specs.Logins.{client_of, login_events}
use Rattle.oidc_cli.specs.declared.events.Event.{Event}
use Rattle.oidc_cli.specs.declared.events.Event.TheVariants.{Client}

-- each line ends in a line feed
abbrev pub line_of : List ℕ → List ℕ
line_of words = words ++ 10 ∷ []

-- ---- begins

-- No begin means want of memory, and so it has no line here.
unfoldable pub begin_line : Result Parts BeginError → List ℕ
begin_line (Ok url) = line_of (codes "begin ok " ++ serialize url)
begin_line (Err begin.Flow) = line_of (codes "begin refused flow")
begin_line (Err begin.ClientId) = line_of (codes "begin refused client_id")
begin_line (Err begin.Verifier) = line_of (codes "begin refused verifier")
begin_line (Err begin.UserInfoEndpoint) = line_of (codes "begin refused user_info_endpoint")
begin_line (Err begin.Pending) = line_of (codes "begin refused pending")
begin_line (Err begin.TooLong) = line_of (codes "begin refused too_long")
begin_line (Err begin.Memory) = []

-- ---- requests

-- the pair of a header, where the request has it
abbrev pub header_pair : List ℕ → Option FieldValue → List (List ℕ × List ℕ)
header_pair name None = []
header_pair name (Some value) = (name, value.bytes) ∷ []

-- the pair of the body, where the method is POST
abbrev pub body_pair : SeenRequest → List (List ℕ × List ℕ)
body_pair request = if bytes_eq request.method (codes "POST") then (codes "body", request.body) ∷ [] else []

abbrev pub request_list : SeenRequest → List (List ℕ × List ℕ)
request_list request =
    (codes "method", request.method)
    ∷ (codes "address", request.address)
    ∷ header_pair (codes "accept") (get request.headers (codes "accept"))
    ++ header_pair (codes "content_type") (get request.headers (codes "content-type"))
    ++ header_pair (codes "authorization") (get request.headers (codes "authorization"))
    ++ body_pair request

unfoldable pub request_line : SeenRequest → List ℕ
request_line request = line_of (codes "request " ++ form (request_list request))

abbrev pub request_lines : List SeenRequest → List ℕ
request_lines [] = []
request_lines (request ∷ later) = request_line request ++ request_lines later

-- ---- verdicts

abbrev pub refresh_pair : Option (List ℕ) → List (List ℕ × List ℕ)
refresh_pair None = []
refresh_pair (Some text) = (codes "refresh_token", text) ∷ []

-- the pair of user info, where the login asks for it
abbrev pub user_info_pair : Option SeenUserInfo → List (List ℕ × List ℕ)
user_info_pair None = []
user_info_pair (Some found) = (codes "user_info", user_info_text found) ∷ []

abbrev pub signed_list : SeenSignedIn → List (List ℕ × List ℕ)
signed_list signed =
    (codes "access_token", signed.access_token)
    ∷ refresh_pair signed.refresh_token
    ++ (codes "claims", claims_text signed.id_token.payload)
    ∷ user_info_pair signed.user_info

-- No key's verdict on a signature is want of memory: that is a law of keys. So `Memory` never stands in a
-- refusal, neither here nor below, and has no word.
abbrev pub signature_word : SignatureVerificationError → List ℕ
signature_word signature.AmbiguousKeyId = codes "ambiguous_key"
signature_word signature.CryptoError = codes "crypto_error"
signature_word signature.DisallowedAlg = codes "disallowed_alg"
signature_word signature.InvalidKey = codes "invalid_key"
signature_word signature.NoMatchingKey = codes "no_matching_key"
signature_word signature.NoSignature = codes "no_signature"
signature_word signature.UnsupportedAlg = codes "unsupported_alg"
signature_word signature.Memory = []

abbrev pub claims_word : ClaimsVerificationError → List ℕ
claims_word check.Unsupported = codes "unsupported"
claims_word check.InvalidIssuer = codes "invalid_issuer"
claims_word check.InvalidAudience = codes "invalid_audience"
claims_word (check.SignatureVerification kind) = signature_word kind
claims_word check.Expired = codes "expired"
claims_word check.InvalidNonce = codes "invalid_nonce"
claims_word check.InvalidSubject = codes "invalid_subject"
claims_word check.Memory = []

abbrev pub kind_word : ParseKind → List ℕ
kind_word parse_kind.Syntax = codes "syntax"
kind_word parse_kind.Number = codes "number"
kind_word parse_kind.Duplicate = codes "duplicate"
kind_word parse_kind.UnexpectedTag = codes "tag"
kind_word parse_kind.WrongType = codes "type"
kind_word parse_kind.Missing = codes "missing"
kind_word parse_kind.Url = codes "url"
kind_word parse_kind.Moment = codes "moment"
kind_word parse_kind.Token = codes "token"
kind_word parse_kind.Algorithm = codes "algorithm"
kind_word parse_kind.Additional = codes "additional"

abbrev pub parse_words : Refusal → List ℕ
parse_words refusal =
    codes "parse " ++ form ((codes "kind", kind_word refusal.kind) ∷ (codes "field", refusal.field) ∷ [])

-- `TooLong` and `Memory` never stand inside a refusal of a callback, and have no words here
abbrev pub token_words : TokenError → List ℕ
token_words (token_error.ServerResponse error) = codes "server " ++ escaped (error_text error.error)
token_words (token_error.Request cause) = codes "request"
token_words (token_error.Parse refusal body) = parse_words refusal
token_words (token_error.Other other.Uri) = codes "uri"
token_words (token_error.Other other.EmptyBody) = codes "empty_body"
token_words (token_error.Other other.MediaType) = codes "media_type"
token_words (token_error.TooLong body) = []
token_words token_error.Memory = []

-- those of user info, in the order in which it is judged; of these two the same holds
abbrev pub info_words : InfoRefusal → List ℕ
info_words (info_error.Other info_other.Bearer) = codes "bearer"
info_words (info_error.Other info_other.Uri) = codes "uri"
info_words (info_error.Other info_other.Utf8) = codes "utf8"
info_words (info_error.Request cause) = codes "request"
info_words (info_error.Response status body info_cause.Status) = codes "status"
info_words (info_error.Response status body info_cause.MediaType) = codes "media_type"
info_words (info_error.Parse refusal) = parse_words refusal
info_words (info_error.ClaimsVerification kind) = codes "claims " ++ claims_word kind
info_words (info_error.TooLong body) = []
info_words info_error.Memory = []

abbrev pub place_word : TooLong → List ℕ
place_word place.Callback = codes "callback"
place_word place.TokenAnswer = codes "token_answer"
place_word place.UserInfoAnswer = codes "user_info_answer"

-- No callback means want of memory, and so it has no line here. A hash is refused for one cause alone: that
-- none goes with the algorithm.
unfoldable pub verdict_line : Result SeenSignedIn Error → List ℕ
verdict_line (Ok signed) = line_of (codes "callback ok " ++ form (signed_list signed))
verdict_line (Err (login.TooLong at)) = line_of (codes "callback refused too_long " ++ place_word at)
verdict_line (Err login.State) = line_of (codes "callback refused state")
verdict_line (Err (login.Provider code)) =
    line_of (codes "callback refused provider " ++ escaped (auth_error_text code))
verdict_line (Err login.Callback) = line_of (codes "callback refused callback")
verdict_line (Err (login.Token e)) = line_of (codes "callback refused token " ++ token_words e)
verdict_line (Err login.NoIdToken) = line_of (codes "callback refused no_id_token")
verdict_line (Err (login.Claims kind)) = line_of (codes "callback refused claims " ++ claims_word kind)
verdict_line (Err (login.Signing refusal)) = line_of (codes "callback refused signing unsupported_alg")
verdict_line (Err login.TokenHash) = line_of (codes "callback refused token_hash")
verdict_line (Err (login.UserInfo e)) = line_of (codes "callback refused user_info " ++ info_words e)
verdict_line (Err (login.Memory spent)) = []

-- Neither the claims of a user who is signed in nor user info hold a float: none that was read does. No clause knows
-- the text of claims that hold one.
abbrev pub HasNoFloats : Result SeenSignedIn Error → Type 0
HasNoFloats (Err e) = Unit {0}
HasNoFloats (Ok signed) =
    (any_float (list_of signed.id_token.payload.additional_claims) ≡ false)
    × IfSome signed.user_info (λ found. any_float (list_of found.additional_claims) ≡ false)

-- ---- steps

abbrev pub Step : Type 0
Step = runs.Step Others (List ℕ)

abbrev pub reply_line : runs.Reply Others (List ℕ) → List ℕ
reply_line (runs.begun reply) = begin_line reply
reply_line (runs.called reply) = verdict_line reply

-- the requests that a begin or a callback sends, in their order, and its reply
abbrev pub step_lines : Step → List ℕ
step_lines step = request_lines step.sent ++ reply_line step.reply

-- ---- the last line

-- the number of pending logins
abbrev pub pending_line : Pending → List ℕ
pending_line pending = codes "pending " ++ decimal (finite.len pending) ++ 10 ∷ []

-- the number of the line with the script's first fault
abbrev pub fault_line : ℕ → List ℕ
fault_line n = codes "script fault line " ++ decimal n ++ 10 ∷ []

-- ---- the report

abbrev pub steps_lines : List Step → List ℕ
steps_lines [] = []
steps_lines (step ∷ later) = step_lines step ++ steps_lines later

-- The lines of a script's events, of which the first is the client: those of a run of the begins and callbacks behind
-- it, from the empty store.
abbrev pub events_lines : List (Option Event) → List ℕ
events_lines (Some (Client line) ∷ later) =
    let client = client_of line in codes "client ok\n" ++ steps_lines (runs.run_of types client (login_events client later))
events_lines others = []

-- the pending logins that the run leaves
abbrev pub store_after_events : List (Option Event) → Pending
store_after_events (Some (Client line) ∷ later) =
    let client = client_of line in runs.store_of types client (login_events client later)
store_after_events others = finite.empty

-- of lines whose first has number n, those before the line with a fault; all of them where there is none
abbrev pub lines_before : ℕ → Option ℕ → List (List ℕ) → List (List ℕ)
lines_before n None all = all
lines_before n (Some fault) all = take (fault - n) all

-- a script's events before its first fault
abbrev pub events_before_fault : List ℕ → List (Option Event)
events_before_fault script = map event_of (lines_before 1 (fault_of script) (lines script))

-- the last line of a report: that of the script's first fault, or else that of the pending logins
abbrev pub last_line : Option ℕ → Pending → List ℕ
last_line None pending = pending_line pending
last_line (Some fault) pending = fault_line fault

-- the lines of the events before the first fault, and then the line of the fault, or that of the logins
-- that are left pending where there is none
unfoldable pub report : List ℕ → List ℕ
report script =
    let events = events_before_fault script in
    events_lines events ++ last_line (fault_of script) (store_after_events events)
