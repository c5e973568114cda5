-- A start: it is the one request for codes, and what its result rests on.
use Rattle.std.proofs.Common.{◌≡◌, ℕ, ℤ, List, true, false, Some, Result, Ok, Err, refl, sym, ap, subst, ◌∙◌}
use Rattle.std.specs.Prelude.{IfOk, IfErr}
use Rattle.oidc_types.specs.{TextAndUrl}
use Rattle.oidc_oauth2.specs.Messages.{SeenAnswer}
use Rattle.oidc_oauth2.specs.Replies.{Unless, OrMemory, Gives}
use Rattle.oidc_oauth2.specs.Exchanges.{Known, Run, Follows}
use Rattle.oidc_oauth2.specs.AnswerCauses.{AnswerCause, IsTokenAnswer}
use Rattle.oidc_oauth2.specs.TokenAnswers.{TokenRefusal, token_answer, token_errors, seen_refusal, is_fault, wants_memory as request_wants}
use Rattle.oidc_oauth2.specs.declared.token_answers.RequestTokenError.{RequestTokenError}
use Rattle.oidc_oauth2.specs.declared.token_answers.RequestTokenError.TheVariants as token
use Rattle.oidc_oauth2.proofs.Runs.{memory_first, left_alone}
use Rattle.oidc_oauth2_requests.specs.FormRequests.{SeenFormRequest}
use Rattle.oidc_oauth2_requests.specs.RequestCauses as requests
use Rattle.oidc_oauth2_requests.specs.RequestRuns.{request_run, RanForRecord}
use Rattle.oidc_client.specs.Client.{device_request_at}
use Rattle.oidc_device.specs.Types.{SeenDeviceClient}
use Rattle.oidc_device.specs.Errors.{StartRefusal, start_errors, start_wants_memory, start_faulted, start_hides_memory, seen_start}
use Rattle.oidc_device.specs.Logins.{Polling, SeenCodes, SeenDeviceLogin, CoreError, error_read, codes_read, first_login, codes_ask, asked_run, start_reply, start_run}
use Rattle.oidc_device.specs.Causes.{HasNoCodes, StartCause, IsStarted}
use Rattle.oidc_device.specs.Runs.{Started}
use Rattle.oidc_device.specs.Steps.{start_of, codes_or_refusal, started_by, polling_from, login_at}
use Rattle.oidc_device.specs.declared.errors.StartError.{StartError}
use Rattle.oidc_device.specs.declared.errors.StartError.TheVariants as start
use Rattle.oidc_device.proofs.Mapped.{follows_by, asked_at}

-- ---- by the refusal of the request

module _ {E : Type 0} where
  pub start_hides : (e : RequestTokenError E CoreError) → start_hides_memory (start_of e) ≡ false
  start_hides (token.ServerResponse error) = refl
  start_hides (token.Request cause) = refl
  start_hides (token.Parse refusal body) = refl
  start_hides (token.Other cause) = refl
  start_hides (token.TooLong body) = refl
  start_hides token.Memory = refl

module _ {E : Type 0} where
  pub codes_hide : (asked : Result SeenCodes (RequestTokenError E CoreError)) → IfErr (codes_or_refusal asked) (λ e. start_hides_memory e ≡ false)
  codes_hide (Ok codes) = tt
  codes_hide (Err e) = start_hides e

  err_blamed : (e : RequestTokenError E CoreError) (R : Type 0) → (is_fault e ≡ true → R) → start_faulted (start_of e) ≡ true → R
  err_blamed (token.ServerResponse error) R blamed is = blamed is
  err_blamed (token.Request cause) R blamed is = blamed is
  err_blamed (token.Parse refusal body) R blamed is = blamed is
  err_blamed (token.Other cause) R blamed is = blamed is
  err_blamed (token.TooLong body) R blamed is = blamed is
  err_blamed token.Memory R blamed is = absurd (cc)

  pub codes_blamed : (asked : Result SeenCodes (RequestTokenError E CoreError)) (R : Type 0) → IfErr asked (λ e. is_fault e ≡ true → R)
      → IfErr (codes_or_refusal asked) (λ e. start_faulted e ≡ true → R)
  codes_blamed (Ok codes) R blamed = tt
  codes_blamed (Err e) R blamed = err_blamed e R blamed

-- ---- the first state

pub first_is : {Key : Type 0} (client : SeenDeviceClient Key) (now : ℤ) (codes : SeenCodes) (p : Polling) (expires_in interval : ℕ) → p ≡ polling_from now expires_in interval
    → expires_in ≡ codes.expires_in → interval ≡ codes.interval → login_at client codes p ≡ first_login client now codes
first_is client now codes p expires_in interval is own_expiry own_interval =
    ap (login_at client codes) (is ∙ ap (λ n. polling_from now n interval) own_expiry ∙ ap (polling_from now codes.expires_in) own_interval)

module _ {Key : Type 0} (client : SeenDeviceClient Key) (now : ℤ) where
  abbrev Given : {E : Type 0} → Result (SeenDeviceLogin Key) (StartError E) → Result (SeenDeviceLogin Key) StartRefusal → Type 0
  Given result reply = Gives start_errors result reply

  module _ {E : Type 0} where
    -- the login by what came of the request
    abbrev pub made_of : Result SeenCodes (RequestTokenError E CoreError) → Result (SeenDeviceLogin Key) (StartError E)
    made_of asked = started_by client now (codes_or_refusal asked)

    err_given : (e : RequestTokenError E CoreError) (r : Result SeenCodes (TokenRefusal CoreError)) → Gives token_errors {A = SeenCodes} (Err e) r
        → Given (Err (start_of e)) (start_reply client now r)
    err_given (token.ServerResponse error) r is = ap (start_reply client now) is
    err_given (token.Request cause) r is = ap (start_reply client now) is
    err_given (token.Parse refusal body) r is = ap (start_reply client now) is
    err_given (token.Other cause) r is = ap (start_reply client now) is
    err_given (token.TooLong body) r is = ap (start_reply client now) is
    err_given token.Memory r is = tt

    made_gives : (asked : Result SeenCodes (RequestTokenError E CoreError)) (r : Result SeenCodes (TokenRefusal CoreError)) → Gives token_errors asked r
        → Given (made_of asked) (start_reply client now r)
    made_gives (Ok codes) r is = ap (start_reply client now) is
    made_gives (Err e) r is = err_given e r is

    err_memory : (e : RequestTokenError E CoreError) (P : Type 0) → request_wants e ≡ true → Unless (start_wants_memory (start_of e)) P
    err_memory (token.ServerResponse error) P is = absurd (cc)
    err_memory (token.Request cause) P is = absurd (cc)
    err_memory (token.Parse refusal body) P is = absurd (cc)
    err_memory (token.Other cause) P is = absurd (cc)
    err_memory (token.TooLong body) P is = absurd (cc)
    err_memory token.Memory P is = tt

    made_memory : (asked : Result SeenCodes (RequestTokenError E CoreError)) (P : Type 0) → IfErr asked (λ e. request_wants e ≡ true → OrMemory start_errors (made_of asked) P)
    made_memory (Ok codes) P = tt
    made_memory (Err e) P = err_memory e P

  -- ---- the request

  module _ (endpoint : TextAndUrl) (own_endpoint : client.device_authorization_url ≡ Some endpoint) where
    abbrev ask : SeenFormRequest
    ask = device_request_at client endpoint

    own_ask : codes_ask client ≡ Some ask
    own_ask = asked_at client.device_authorization_url endpoint (device_request_at client) own_endpoint

    abbrev StartRun : Type 0
    StartRun = Run (SeenDeviceLogin Key) StartRefusal

    abbrev made_run : List SeenAnswer → StartRun
    made_run answers =
        let run = request_run (token_answer error_read codes_read) ask answers in record { reply = start_reply client now run.reply; sent = run.sent }

    same_run : (answers : List SeenAnswer) → start_run client now answers ≡ made_run answers
    same_run answers =
        ap (λ o. let run = asked_run (token_answer error_read codes_read) o answers in
        let made : StartRun = record { reply = start_reply client now run.reply; sent = run.sent } in made) own_ask

    module _ {E : Type 0} (old new : Known) (asked : Result SeenCodes (RequestTokenError E CoreError)) (ran : RanForRecord ask old new error_read codes_read asked) where
      abbrev answers : List SeenAnswer
      answers = ran.exchanged.answers

      abbrev exchanged : Follows start_errors (start_run client now) old new (made_of asked)
      exchanged =
          follows_by token_errors start_errors (request_run (token_answer error_read codes_read) ask) (start_reply client now)
          (start_run client now) same_run old new asked (made_of asked) (made_gives asked) (made_memory asked) ran.exchanged

      abbrev WhyNot : TokenRefusal CoreError → Type 0
      WhyNot e = requests.Cause ask answers (AnswerCause error_read codes_read) e

      no_codes : (e : TokenRefusal CoreError) → WhyNot e → HasNoCodes client answers e
      no_codes e cause = record { ask = ask; own_ask = own_ask; cause = cause }

      err_cause : (e : RequestTokenError E CoreError) → Unless (request_wants e) (WhyNot (seen_refusal e))
          → Unless (start_wants_memory (start_of e)) (StartCause client answers (seen_start (start_of e)))
      err_cause (token.ServerResponse error) cause = no_codes _ cause
      err_cause (token.Request fault) cause = no_codes _ cause
      err_cause (token.Parse refusal body) cause = no_codes _ cause
      err_cause (token.Other other) cause = no_codes _ cause
      err_cause (token.TooLong body) cause = no_codes _ cause
      err_cause token.Memory cause = tt

      caused : (asked : Result SeenCodes (RequestTokenError E CoreError)) → IfErr asked (λ e. OrMemory token_errors asked (WhyNot (seen_refusal e)))
          → IfErr (made_of asked) (λ e. Unless (start_wants_memory e) (StartCause client answers (seen_start e)))
      caused (Ok codes) cause = tt
      caused (Err e) cause = err_cause e cause

      held : (asked : Result SeenCodes (RequestTokenError E CoreError)) → IfOk asked (requests.IsHeld ask answers (IsTokenAnswer error_read codes_read))
          → IfOk (made_of asked) (IsStarted client answers now)
      held (Ok codes) said = record { ask = ask; own_ask = own_ask; codes = codes; codes_held = said; first = refl }
      held (Err e) said = tt

      own_cause : (e : TokenRefusal CoreError) → HasNoCodes client answers e → WhyNot e
      own_cause e x =
          let same : x.ask ≡ ask = let both = sym x.own_ask ∙ own_ask in cc in
          subst (λ a. requests.Cause a answers (AnswerCause error_read codes_read) e) same x.cause

      refused : (e : StartRefusal) → StartCause client answers e → Given (made_of asked) (Err e)
      refused (start.Device e) c = made_gives asked (Err e) (ran.refused e (own_cause e c))
      refused start.Memory c = absurd c

      starts : (login : SeenDeviceLogin Key) → IsStarted client answers now login → Given (made_of asked) (Ok login)
      starts login x =
          let same : x.ask ≡ ask = let both = sym x.own_ask ∙ own_ask in cc in
          let said = subst (λ a. requests.IsHeld a answers (IsTokenAnswer error_read codes_read) x.codes) same x.codes_held in
          subst (λ l. Given (made_of asked) (Ok l)) (sym x.first) (made_gives asked (Ok x.codes) (ran.holds x.codes said))

      pub started : Started client now old new (made_of asked)
      started = record {
        exchanged = exchanged;
        cause = caused asked ran.cause;
        refused = refused;
        started = held asked ran.held;
        starts = starts;
      }

  -- there was no memory for the request
  pub started_without : {E : Type 0} (known : Known) → Started {E = E} client now known known (Err start.Memory)
  started_without known = record {
    exchanged = memory_first start_errors (start_run client now) known known start.Memory refl (left_alone known);
    cause = tt;
    refused = λ e c. tt;
    started = tt;
    starts = λ login c. tt;
  }
