-- The rows on tokens and on an ID token, by what was found of them.
use Rattle.std.proofs.Common.{◌≡◌, ℕ, ℤ, List, true, false, Option, None, Some, Result, Ok, Err, refl, sym, ap, subst, ◌∙◌}
use Rattle.std.specs.Prelude.{is_some, IfOk, IfErr, IsErrAnd}
use Rattle.oidc_oauth2.specs.Replies.{◌>>=◌, ◌>>◌, ◌when◌, ◌for◌, ◌or◌, Unless, Gives}
use Rattle.oidc_oauth2.proofs.Runs.{unless_map}
use Rattle.oidc_oauth2.specs.TokenAnswers.{TokenRefusal, token_errors, wants_memory as poll_wants, is_fault}
use Rattle.oidc_oauth2.specs.declared.token_answers.RequestTokenError.{RequestTokenError}
use Rattle.oidc_oauth2.specs.declared.token_answers.RequestTokenError.TheVariants as token
use Rattle.oidc_oauth2_requests.specs.RequestAnswers.{DeviceError as PollError}
use Rattle.oidc_oauth2_requests.specs.declared.device.PollStep.{PollStep}
use Rattle.oidc_oauth2_requests.specs.declared.device.PollStep.TheVariants as poll
use Rattle.oidc_tokens.specs.Refreshed.{any_nonce}
use Rattle.oidc_tokens.specs.declared.verification.refusals.ClaimsVerificationError.{ClaimsVerificationError}
use Rattle.oidc_tokens.specs.declared.verification.refusals.ClaimsVerificationError.TheVariants as check
use Rattle.oidc_tokens.specs.Verification.{first_failure, Judges}
use Rattle.oidc_device.specs.Types.{DeviceTypes, SeenDeviceClient}
use Rattle.oidc_device.specs.Token.{SeenIdToken, KeyVerifier, device_verifier, failure_for, claimed_hash, hash_beside, hash_refusal, has_another_hash, Tokens}
use Rattle.oidc_device.specs.SignedIn.{SeenDeviceSignedIn, signed_by}
use Rattle.oidc_device.specs.Errors.{Error, seen, step_wants_memory, faulted, device_errors}
use Rattle.oidc_device.specs.DeviceStep.{user_of_tokens, judged_step, poll_reply}
use Rattle.oidc_device.specs.declared.errors.DeviceError.{DeviceError}
use Rattle.oidc_device.specs.declared.errors.DeviceError.TheVariants as device
use Rattle.oidc_device.specs.declared.step.DeviceStep.{DeviceStep}
use Rattle.oidc_device.specs.declared.step.DeviceStep.TheVariants as step
use Rattle.oidc_device.specs.Steps.{check_refusal, of_poll, PassesChecks, checked_hash, accepted_token}

-- ---- the checks

module _ (E : Type 0) where
  pub of_check_no_fault : (e : ClaimsVerificationError) → faulted (check_refusal {E = E} e) ≡ false
  of_check_no_fault check.Unsupported = refl
  of_check_no_fault check.InvalidIssuer = refl
  of_check_no_fault check.InvalidAudience = refl
  of_check_no_fault (check.SignatureVerification refusal) = refl
  of_check_no_fault check.Expired = refl
  of_check_no_fault check.InvalidNonce = refl
  of_check_no_fault check.InvalidSubject = refl
  of_check_no_fault check.Memory = refl

module _ {AC GC Key Use : Type 0} (types : DeviceTypes AC GC Key Use) (client : SeenDeviceClient Key) (now : ℤ) (token : SeenIdToken AC GC) (access_token : List ℕ) where
  abbrev pub hash_meant : Result (Unit {0}) Error
  hash_meant = checked_hash (claimed_hash token) (hash_beside types (device_verifier types client) token access_token)

  accepting_by : (failure : Option ClaimsVerificationError) → failure_for types client now token ≡ failure
      → accepted_token types client now token access_token ≡ ((device.Claims for failure) >> hash_meant)
  unfolding accepted_token
  accepting_by failure is = ap (λ o. (device.Claims for o) >> hash_meant) is

  pub passed : {E : Type 0} (result : Result (Unit {0}) (DeviceError E)) → failure_for types client now token ≡ None → Gives device_errors result hash_meant
      → Gives device_errors result (accepted_token types client now token access_token)
  passed result none gives = subst (Gives device_errors result) (sym (accepting_by None none)) gives

  failed : (kind : ClaimsVerificationError) → failure_for types client now token ≡ Some kind → accepted_token types client now token access_token ≡ Err (device.Claims kind)
  failed kind is = accepting_by (Some kind) is

  -- the first check that fails, or want of memory
  refused_check : (E C : Type 0) (e : ClaimsVerificationError) → Judges {C = C} (failure_for types client now token) (Err e)
      → Gives (device_errors {E = E}) {A = Unit {0}} (Err (check_refusal e)) (accepted_token types client now token access_token)
  refused_check E C check.Unsupported judged = failed _ judged
  refused_check E C check.InvalidIssuer judged = failed _ judged
  refused_check E C check.InvalidAudience judged = failed _ judged
  refused_check E C (check.SignatureVerification refusal) judged = failed _ judged
  refused_check E C check.Expired judged = failed _ judged
  refused_check E C check.InvalidNonce judged = failed _ judged
  refused_check E C check.InvalidSubject judged = failed _ judged
  refused_check E C check.Memory judged = tt

  pub refused_by : (E C : Type 0) (failure : Option ClaimsVerificationError) → failure ≡ failure_for types client now token → (e : ClaimsVerificationError) → Judges {C = C} failure (Err e)
      → Gives (device_errors {E = E}) {A = Unit {0}} (Err (check_refusal e)) (accepted_token types client now token access_token)
  refused_by E C failure same e judged = refused_check E C e (subst (λ f. Judges {C = C} f (Err e)) same judged)

  -- the verifier of a client, by another name
  pub same_failure : (verifier : KeyVerifier Key) → verifier ≡ device_verifier types client → first_failure types.keys verifier any_nonce now token ≡ failure_for types client now token
  same_failure verifier own = ap (λ v. first_failure types.keys v any_nonce now token) own

  pub same_hash : {E : Type 0} (result : Result (Unit {0}) (DeviceError E)) (verifier : KeyVerifier Key) → verifier ≡ device_verifier types client
      → Gives device_errors result (checked_hash (claimed_hash token) (hash_beside types verifier token access_token)) → Gives device_errors result hash_meant
  same_hash result verifier own gives = subst (λ v. Gives device_errors result (checked_hash (claimed_hash token) (hash_beside types v token access_token))) own gives

-- ---- the tokens

then_row : {B F : Type 0} (m n : Result (Unit {0}) F) (next : Result B F) → (m >> (n >> next)) ≡ ((m >> n) >> next)
then_row (Ok u) n next = refl
then_row (Err e) n next = refl

same_some : {A : Type 0} (a b : A) → Some a ≡ Some b → a ≡ b
same_some a b h = cc

module _ {AC GC Key Use : Type 0} (types : DeviceTypes AC GC Key Use) (client : SeenDeviceClient Key) (now : ℤ) (tokens : Tokens AC GC) where
  by_id_token : (token : SeenIdToken AC GC)
      → ((device.Claims for failure_for types client now token) >> ((device.Signing for hash_refusal types client token tokens.access_token)
      >> ((device.TokenHash when has_another_hash types client token tokens.access_token) >> Ok (signed_by token tokens))))
      ≡ (accepted_token types client now token tokens.access_token >> Ok (signed_by token tokens))
  unfolding accepted_token
  by_id_token token =
      let check = device.Claims for failure_for types client now token in
      let none = device.Signing for hash_refusal types client token tokens.access_token in
      let another = device.TokenHash when has_another_hash types client token tokens.access_token in
      ap (λ m. check >> m) (then_row none another (Ok (signed_by token tokens))) ∙ then_row check (none >> another) (Ok (signed_by token tokens))

  abbrev accepting : Option (SeenIdToken AC GC) → Result (SeenDeviceSignedIn AC GC) Error
  accepting found = (found or device.NoIdToken) >>= λ token. accepted_token types client now token tokens.access_token >> Ok (signed_by token tokens)

  user_by : user_of_tokens types client now tokens ≡ accepting tokens.extra_fields.id_token
  unfolding user_of_tokens
  user_by = λ i. (tokens.extra_fields.id_token or device.NoIdToken) >>= λ token. by_id_token token i

  pub no_token : tokens.extra_fields.id_token ≡ None → user_of_tokens types client now tokens ≡ Err device.NoIdToken
  no_token is = user_by ∙ ap accepting is

  module _ (token : SeenIdToken AC GC) (is : tokens.extra_fields.id_token ≡ Some token) where
    signing_by : (m : Result (Unit {0}) Error) → accepted_token types client now token tokens.access_token ≡ m → user_of_tokens types client now tokens ≡ (m >> Ok (signed_by token tokens))
    signing_by m accepts =
        user_by ∙ ap accepting is ∙ ap (λ m. m >> Ok (signed_by token tokens)) accepts

    signed : accepted_token types client now token tokens.access_token ≡ Ok tt → user_of_tokens types client now tokens ≡ Ok (signed_by token tokens)
    signed accepts = signing_by (Ok tt) accepts

    pub passes : {E : Type 0} (result : Result (Unit {0}) (DeviceError E)) → Gives device_errors result (accepted_token types client now token tokens.access_token)
        → IfOk result (λ u. PassesChecks types client now tokens)
    passes (Ok u) gives = λ other also. let same : token ≡ other = same_some _ _ (sym is ∙ also) in
        signed gives ∙ ap (λ t. Ok (signed_by t tokens)) same
    passes (Err e) gives = tt

    pub refuses : {E : Type 0} (result : Result (Unit {0}) (DeviceError E)) → Gives device_errors result (accepted_token types client now token tokens.access_token)
        → IfErr result (λ e. Unless (step_wants_memory e) (user_of_tokens types client now tokens ≡ Err (seen e)))
    refuses (Ok u) gives = tt
    refuses (Err e) gives = unless_map (step_wants_memory e) (λ accepts. signing_by (Err (seen e)) accepts) gives

  signed_where : (o : Option (SeenIdToken AC GC)) → is_some o ≡ true → (m : Result (SeenDeviceSignedIn AC GC) Error) (user : SeenDeviceSignedIn AC GC) → ((token : SeenIdToken AC GC) → o ≡ Some token → user ≡ signed_by token tokens)
      → ((token : SeenIdToken AC GC) → o ≡ Some token → m ≡ Ok (signed_by token tokens)) → m ≡ Ok user
  signed_where None none m user own meant = cc
  signed_where (Some token) some m user own meant = meant token refl ∙ ap Ok (sym (own token refl))

  pub signs : (user : SeenDeviceSignedIn AC GC) → is_some tokens.extra_fields.id_token ≡ true → ((token : SeenIdToken AC GC) → tokens.extra_fields.id_token ≡ Some token → user ≡ signed_by token tokens)
      → PassesChecks types client now tokens → user_of_tokens types client now tokens ≡ Ok user
  signs user some own passed = signed_where tokens.extra_fields.id_token some (user_of_tokens types client now tokens) user own passed

  -- the step that they are worth
  pub step_signed : (user : SeenDeviceSignedIn AC GC) → user_of_tokens types client now tokens ≡ Ok user
      → judged_step types client now (poll.Done tokens) ≡ Ok (step.Done user)
  step_signed user is = ap (λ (m : Result (SeenDeviceSignedIn AC GC) Error). m >>= λ user. Ok (step.Done user)) is

  pub step_refused : {E : Type 0} (e : DeviceError E) → Unless (step_wants_memory e) (user_of_tokens types client now tokens ≡ Err (seen e))
      → Gives device_errors {A = DeviceStep AC GC} (Err e) (judged_step types client now (poll.Done tokens))
  step_refused e refused =
      unless_map (step_wants_memory e) (λ is. ap (λ (m : Result (SeenDeviceSignedIn AC GC) Error). m >>= λ user. Ok (step.Done user)) is) refused

-- ---- a poll, by what came of it

abbrev PollMeant : Type 0 → Type 0 → Type 0
PollMeant AC GC = Result (PollStep (Tokens AC GC)) (TokenRefusal PollError)

module _ {AC GC Key Use : Type 0} (types : DeviceTypes AC GC Key Use) (client : SeenDeviceClient Key) (now : ℤ) {E : Type 0} where
  -- a step that was said
  said_given : (said : PollStep (Tokens AC GC)) (reply : PollMeant AC GC) (result : Result (DeviceStep AC GC) (DeviceError E)) → reply ≡ Ok said
      → Gives device_errors result (judged_step types client now said) → Gives device_errors result (poll_reply types client now reply)
  said_given said reply result is gives = subst (Gives device_errors result) (sym (ap (poll_reply types client now) is)) gives

  -- a refusal
  err_given : (e : RequestTokenError E PollError) (reply : PollMeant AC GC) → Gives token_errors {A = PollStep (Tokens AC GC)} (Err e) reply
      → Gives device_errors {A = DeviceStep AC GC} (Err (of_poll e)) (poll_reply types client now reply)
  err_given (token.ServerResponse error) reply is = ap (poll_reply types client now) is
  err_given (token.Request cause) reply is = ap (poll_reply types client now) is
  err_given (token.Parse refusal body) reply is = ap (poll_reply types client now) is
  err_given (token.Other cause) reply is = ap (poll_reply types client now) is
  err_given (token.TooLong body) reply is = ap (poll_reply types client now) is
  err_given token.Memory reply is = tt

  err_memory : (e : RequestTokenError E PollError) → poll_wants e ≡ true → of_poll e ≡ device.Memory
  err_memory (token.ServerResponse error) is = absurd (cc)
  err_memory (token.Request cause) is = absurd (cc)
  err_memory (token.Parse refusal body) is = absurd (cc)
  err_memory (token.Other cause) is = absurd (cc)
  err_memory (token.TooLong body) is = absurd (cc)
  err_memory token.Memory is = refl

  err_fault : (e : RequestTokenError E PollError) → faulted (of_poll e) ≡ true → is_fault e ≡ true
  err_fault (token.ServerResponse error) is = absurd (cc)
  err_fault (token.Request cause) is = refl
  err_fault (token.Parse refusal body) is = absurd (cc)
  err_fault (token.Other cause) is = absurd (cc)
  err_fault (token.TooLong body) is = absurd (cc)
  err_fault token.Memory is = absurd (cc)

  -- ---- the same of what came of it, by another name

  module _ (polled : Result (PollStep (Tokens AC GC)) (RequestTokenError E PollError)) where
    pub said_from : (said : PollStep (Tokens AC GC)) (reply : PollMeant AC GC) (result : Result (DeviceStep AC GC) (DeviceError E)) → polled ≡ Ok said
        → Gives token_errors polled reply → Gives device_errors result (judged_step types client now said) → Gives device_errors result (poll_reply types client now reply)
    said_from said reply result is given gives = said_given said reply result (subst (λ p. Gives token_errors p reply) is given) gives

    module _ (e : RequestTokenError E PollError) (own : DeviceError E) (is : polled ≡ Err e) (is_own : own ≡ of_poll e) where
      pub err_from : (reply : PollMeant AC GC) → Gives token_errors polled reply → Gives device_errors {A = DeviceStep AC GC} (Err own) (poll_reply types client now reply)
      err_from reply given =
          subst (λ f. Gives device_errors {A = DeviceStep AC GC} (Err f) (poll_reply types client now reply)) (sym is_own)
          (err_given e reply (subst (λ p. Gives token_errors p reply) is given))

      pub memory_from : IfErr polled (λ f. poll_wants f ≡ true → ◌≡◌ {A = Result (DeviceStep AC GC) (DeviceError E)} (Err own) (Err device.Memory))
      memory_from =
          subst (λ p. IfErr p (λ f. poll_wants f ≡ true → ◌≡◌ {A = Result (DeviceStep AC GC) (DeviceError E)} (Err own) (Err device.Memory))) (sym is)
          (λ wants. ap Err (is_own ∙ err_memory e wants))

      pub fault_from : faulted own ≡ true → IsErrAnd polled (λ p. is_fault p ≡ true)
      fault_from faults =
          subst (λ p. IsErrAnd p (λ f. is_fault f ≡ true)) (sym is) (err_fault e (subst (λ (f : DeviceError E). faulted f ≡ true) is_own faults))
