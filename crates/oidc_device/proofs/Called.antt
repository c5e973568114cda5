-- What the whole of a step, and of a start, says of single answers.
use Rattle.std.proofs.Common.{◌≡◌, ℕ, ℤ, List, true, false, Some, Result, Ok, Err, refl, sym, ap, subst, ◌∙◌}
use Rattle.std.specs.Prelude.{IfOk, IfErr, IsErrAnd}
use Rattle.oidc_types.specs.declared.signing_error.SigningError.{SigningError}
use Rattle.oidc_types.specs.declared.signing_error.SigningError.TheVariants as signing
use Rattle.oidc_oauth2.specs.Messages.{SeenAnswer}
use Rattle.oidc_oauth2.specs.Replies.{Unless, Gives}
use Rattle.oidc_oauth2.specs.Exchanges.{Known}
use Rattle.oidc_oauth2.specs.TokenAnswers.{is_fault}
use Rattle.oidc_oauth2.specs.declared.token_answers.OtherCause.TheVariants as other
use Rattle.oidc_oauth2.specs.declared.token_answers.RequestTokenError.{RequestTokenError}
use Rattle.oidc_oauth2.specs.declared.token_answers.RequestTokenError.TheVariants as token
use Rattle.oidc_oauth2_requests.specs.RequestAnswers.{DeviceError as PollError}
use Rattle.oidc_device.specs.Types.{DeviceTypes, SeenDeviceClient}
use Rattle.oidc_device.specs.Token.{IsAcceptedBy, HasOwnHash}
use Rattle.oidc_device.specs.SignedIn.{SeenDeviceSignedIn}
use Rattle.oidc_device.specs.Errors.{Error, seen, step_wants_memory, faulted, hides_memory, device_errors, seen_start, start_wants_memory, start_faulted, start_hides_memory, start_errors}
use Rattle.oidc_device.specs.Logins.{SeenCodes, SeenDeviceLogin, first_login, codes_ask, poll_ask}
use Rattle.oidc_device.specs.Causes.{IsPollRefused, HasNoAddress, HasExpired, Waits, IsDue, HasNoCodes, StartCause, IsStarted, IsSignedIn, RestsOn, Cause, IfDone}
use Rattle.oidc_device.specs.Runs.{Started, Stepped}
use Rattle.oidc_device.specs.Steps.{started_by}
use Rattle.oidc_device.specs.declared.step.DeviceStep.{DeviceStep}
use Rattle.oidc_device.specs.declared.step.DeviceStep.TheVariants as step
use Rattle.oidc_device.specs.declared.errors.StartError.{StartError}
use Rattle.oidc_device.specs.declared.errors.StartError.TheVariants as start
use Rattle.oidc_device.specs.declared.errors.DeviceError.{DeviceError}
use Rattle.oidc_device.specs.declared.errors.DeviceError.TheVariants as device
use Rattle.oidc_device.proofs.Verdicts.{NeverWants, never_wanted, never_wanting, never_memory}
use Rattle.oidc_device.proofs.Moments.{never_both, due_turn, wait_turn}
use Rattle.oidc_device.proofs.TokenHash.{fits_own}

-- ---- faults

pub blamed_by_poll : {A B E : Type 0} (polled : Result B (RequestTokenError E PollError)) (result : Result A (DeviceError E)) (R : Type 0)
    → IfErr result (λ e. faulted e ≡ true → IsErrAnd polled (λ p. is_fault p ≡ true)) → IfErr polled (λ p. is_fault p ≡ true → R)
    → IfErr result (λ e. faulted e ≡ true → R)
blamed_by_poll polled (Ok x) R fault blamed = tt
blamed_by_poll (Ok y) (Err e) R fault blamed = λ is. absurd (fault is)
blamed_by_poll (Err p) (Err e) R fault blamed = λ is. blamed (fault is)

-- ---- the own error, by what is seen of it

module _ {A : Type 0} where
  same_err : (x y : Error) → ◌≡◌ {A = Result A Error} (Err x) (Err y) → x ≡ y
  same_err x y is = cc

module _ {E : Type 0} where
  is_over : (e : DeviceError E) → device.Over ≡ seen e → e ≡ device.Over
  is_over device.Over is = refl
  is_over device.Expired is = cc
  is_over (device.Token e) is = cc
  is_over device.NoIdToken is = cc
  is_over (device.Claims kind) is = cc
  is_over (device.Signing refusal) is = cc
  is_over device.TokenHash is = cc
  is_over device.Memory is = cc

  is_expired : (e : DeviceError E) → device.Expired ≡ seen e → e ≡ device.Expired
  is_expired device.Over is = cc
  is_expired device.Expired is = refl
  is_expired (device.Token e) is = cc
  is_expired device.NoIdToken is = cc
  is_expired (device.Claims kind) is = cc
  is_expired (device.Signing refusal) is = cc
  is_expired device.TokenHash is = cc
  is_expired device.Memory is = cc

module _ {A E : Type 0} where
  -- the result is this, where it isn't want of memory
  exact_err : (e : DeviceError E) (meant : Result A Error) → (e ≡ device.Memory → ⊥) → Unless (step_wants_memory e) (meant ≡ Err (seen e)) → meant ≡ Err (seen e)
  exact_err device.Over meant never given = given
  exact_err device.Expired meant never given = given
  exact_err (device.Token e) meant never given = given
  exact_err device.NoIdToken meant never given = given
  exact_err (device.Claims kind) meant never given = given
  exact_err (device.Signing refusal) meant never given = given
  exact_err device.TokenHash meant never given = given
  exact_err device.Memory meant never given = absurd (never refl)

-- ---- a step

module _ {AC GC Key Use E : Type 0} (types : DeviceTypes AC GC Key Use) (login : SeenDeviceLogin Key) (now : ℤ) (before after : Known)
    (result : Result (DeviceStep AC GC) (DeviceError E)) (ran : Stepped types login now before after result) where
  abbrev answers : List SeenAnswer
  answers = ran.exchanged.answers

  abbrev HasCause : Result (DeviceStep AC GC) (DeviceError E) → Type 0
  HasCause r = IfErr r (λ e. Unless (step_wants_memory e) (Cause types login now answers (seen e)))

  abbrev HasRest : Result (DeviceStep AC GC) (DeviceError E) → Type 0
  HasRest r = IfOk r (RestsOn types login now answers)

  pub over_of : result ≡ Err device.Over → login.polling.is_over ≡ true
  over_of is = let cause = subst HasCause is ran.cause in cause

  pub expired_of : result ≡ Err device.Expired → HasExpired login.polling now
  expired_of is = let cause = subst HasCause is ran.cause in cause

  pub wait_of : (wait : ℕ) → result ≡ Ok (step.Wait wait) → Waits login.polling now wait
  wait_of wait is = let rest = subst HasRest is ran.answered in rest

  over_given : (r : Result (DeviceStep AC GC) (DeviceError E)) → (r ≡ Err device.Memory → ⊥) → Gives device_errors r (Err device.Over) → r ≡ Err device.Over
  over_given (Ok x) never given = absurd (cc)
  over_given (Err e) never given = ap Err (is_over e (same_err _ _ (exact_err e _ (λ is. never (ap Err is)) given)))

  expired_given : (r : Result (DeviceStep AC GC) (DeviceError E)) → (r ≡ Err device.Memory → ⊥) → Gives device_errors r (Err device.Expired) → r ≡ Err device.Expired
  expired_given (Ok x) never given = absurd (cc)
  expired_given (Err e) never given = ap Err (is_expired e (same_err _ _ (exact_err e _ (λ is. never (ap Err is)) given)))

  step_given : (r : Result (DeviceStep AC GC) (DeviceError E)) (s : DeviceStep AC GC) → (r ≡ Err device.Memory → ⊥) → Gives device_errors r (Ok s) → r ≡ Ok s
  step_given (Ok x) s never given = let same : s ≡ x = cc in ap Ok (sym same)
  step_given (Err e) s never given = let is = exact_err e (Ok s) (λ is. never (ap Err is)) given in absurd (cc)

  module _ (memory : result ≡ Err device.Memory → IsDue login.polling now) where
    pub is_over_given : login.polling.is_over ≡ true → result ≡ Err device.Over
    is_over_given is =
        over_given result (λ wants. let no = (memory wants).not_over in absurd (cc)) (ran.refused device.Over is)

    pub has_expired_given : HasExpired login.polling now → result ≡ Err device.Expired
    has_expired_given x =
        expired_given result (λ wants. never_both now login.polling.expiry (memory wants).unexpired x.expired) (ran.refused device.Expired x)

    pub waits_given : (wait : ℕ) → Waits login.polling now wait → result ≡ Ok (step.Wait wait)
    waits_given wait x =
        step_given result (step.Wait wait)
        (λ wants. let both = sym (due_turn login.polling now (memory wants)) ∙ wait_turn login.polling now wait x in cc)
        (ran.answers_so (step.Wait wait) x)

  pub uri_of : result ≡ Err (device.Token (token.Other other.Uri)) → IsDue login.polling now × HasNoAddress (poll_ask login)
  uri_of is =
      let x : IsPollRefused types login now answers (token.Other other.Uri) = subst HasCause is ran.cause in
      (x.is_due, record { ask = x.ask; own_ask = x.own_ask; no_address = x.cause })

  pub no_address_given : IsDue login.polling now → HasNoAddress (poll_ask login) → Gives device_errors result (Err (device.Token (token.Other other.Uri)))
  no_address_given is_due x = ran.refused (device.Token (token.Other other.Uri)) (record { is_due = is_due; ask = x.ask; own_ask = x.own_ask; cause = x.no_address })

  -- ---- a user who is signed in

  done_by : (P : SeenDeviceSignedIn AC GC → Type 0) → ((user : SeenDeviceSignedIn AC GC) → IsSignedIn types login now answers user → P user)
      → (r : Result (DeviceStep AC GC) (DeviceError E)) → HasRest r → IfDone r P
  done_by P known (Ok (step.Wait wait)) rest = tt
  done_by P known (Ok step.Pending) rest = tt
  done_by P known (Ok step.SlowDown) rest = tt
  done_by P known (Ok (step.Done user)) rest = known user rest
  done_by P known (Err e) rest = tt

  pub done_accepted : IfDone result (λ user. IsAcceptedBy types login.client now user.id_token)
  done_accepted =
      done_by _ (λ user is. subst (IsAcceptedBy types login.client now) (sym is.own_id_token) is.accepted) result ran.answered

  own_hash : (user : SeenDeviceSignedIn AC GC) (is : IsSignedIn types login now answers user) → HasOwnHash types login.client user.id_token user.access_token
  own_hash user is =
      subst (λ t. HasOwnHash types login.client t user.access_token) (sym is.own_id_token)
      (subst (λ t. HasOwnHash types login.client is.held.token t) (sym is.own_access_token)
      (fits_own types login.client now is.held.token is.accepted is.held.tokens.access_token is.fits_hash))

  pub done_hash : IfDone result (λ user. HasOwnHash types login.client user.id_token user.access_token)
  done_hash = done_by _ own_hash result ran.answered

  -- ---- want of memory

  token_hides : (e : RequestTokenError E PollError) → Cause types login now answers (seen (device.Token e)) → hides_memory (device.Token e) ≡ false
  token_hides (token.ServerResponse error) c = refl
  token_hides (token.Request cause) c = refl
  token_hides (token.Parse refusal body) c = refl
  token_hides (token.Other cause) c = refl
  token_hides (token.TooLong body) c = refl
  token_hides token.Memory c = absurd c.cause

  signing_hides : (e : SigningError) (text : List ℕ) → e ≡ signing.UnsupportedAlg text → hides_memory {E = E} (device.Signing e) ≡ false
  signing_hides signing.CryptoError text is = refl
  signing_hides (signing.UnsupportedAlg name) text is = refl
  signing_hides (signing.Other name) text is = refl
  signing_hides signing.Memory text is = cc

  module _ (law : NeverWants types) where
    hides : (e : DeviceError E) → Unless (step_wants_memory e) (Cause types login now answers (seen e)) → hides_memory e ≡ false
    hides device.Over c = refl
    hides device.Expired c = refl
    hides (device.Token e) c = token_hides e c
    hides device.NoIdToken c = refl
    hides (device.Claims kind) c =
        never_wanted kind
        (λ own. never_memory types login.client now c.held.token (c.check_failed ∙ ap Some own))
        (λ inside. never_wanting types law login.client now c.held.token (c.check_failed ∙ ap Some inside))
    hides (device.Signing refusal) c = signing_hides refusal _ c.names_algorithm
    hides device.TokenHash c = refl
    hides device.Memory c = refl

    by_cause : (r : Result (DeviceStep AC GC) (DeviceError E)) → HasCause r → IfErr r (λ e. hides_memory e ≡ false)
    by_cause (Ok x) c = tt
    by_cause (Err e) c = hides e c

    pub no_inner_memory : IfErr result (λ e. hides_memory e ≡ false)
    no_inner_memory = by_cause result ran.cause

-- ---- a start

module _ {Key E : Type 0} (client : SeenDeviceClient Key) (now : ℤ) where
  pub start_blamed : (codes : Result SeenCodes (StartError E)) (R : Type 0) → IfErr codes (λ e. start_faulted e ≡ true → R)
      → IfErr (started_by client now codes) (λ e. start_faulted e ≡ true → R)
  start_blamed (Ok codes) R blamed = tt
  start_blamed (Err e) R blamed = blamed

  pub start_hides : (codes : Result SeenCodes (StartError E)) → IfErr codes (λ e. start_hides_memory e ≡ false)
      → IfErr (started_by client now codes) (λ e. start_hides_memory e ≡ false)
  start_hides (Ok codes) hidden = tt
  start_hides (Err e) hidden = hidden

module _ {Key E : Type 0} (client : SeenDeviceClient Key) (now : ℤ) (before after : Known) (result : Result (SeenDeviceLogin Key) (StartError E))
    (ran : Started client now before after result) where
  abbrev came : List SeenAnswer
  came = ran.exchanged.answers

  abbrev HasStartCause : Result (SeenDeviceLogin Key) (StartError E) → Type 0
  HasStartCause r = IfErr r (λ e. Unless (start_wants_memory e) (StartCause client came (seen_start e)))

  first_by : (r : Result (SeenDeviceLogin Key) (StartError E)) → IfOk r (IsStarted client came now) → IfOk r (λ login. login ≡ first_login client now login.codes)
  first_by (Ok login) x = x.first ∙ ap (first_login client now) (ap (λ (l : SeenDeviceLogin Key). l.codes) (sym x.first))
  first_by (Err e) x = tt

  pub first_of : IfOk result (λ login. login ≡ first_login client now login.codes)
  first_of = first_by result ran.started

  pub start_uri_of : result ≡ Err (start.Device (token.Other other.Uri)) → HasNoAddress (codes_ask client)
  start_uri_of is =
      let x : HasNoCodes client came (token.Other other.Uri) = subst HasStartCause is ran.cause in
      record { ask = x.ask; own_ask = x.own_ask; no_address = x.cause }

  pub start_no_address : HasNoAddress (codes_ask client) → Gives start_errors result (Err (start.Device (token.Other other.Uri)))
  start_no_address x = ran.refused (start.Device (token.Other other.Uri)) (record { ask = x.ask; own_ask = x.own_ask; cause = x.no_address })
