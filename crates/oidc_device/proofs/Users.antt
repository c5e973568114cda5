-- What tokens are worth rests on its cause, a line for each row of their table, and each cause has its row.
use Rattle.std.proofs.Common.{◌≡◌, ℕ, ℤ, List, Option, None, Some, Result, Ok, Err, refl, sym, ap, subst, ◌∙◌}
use Rattle.std.specs.Prelude.{not}
use Rattle.std.specs.Option.{ok_or}
use Rattle.std.specs.Str.{bytes_eq}
use Rattle.oidc_types.specs.{signing_text}
use Rattle.oidc_types.specs.declared.signing_error.SigningError.{SigningError}
use Rattle.oidc_types.specs.declared.signing_error.SigningError.TheVariants.{UnsupportedAlg}
use Rattle.oidc_oauth2.specs.Messages.{SeenAnswer}
use Rattle.oidc_oauth2.specs.Replies.{◌>>=◌, ◌or◌}
use Rattle.oidc_oauth2_requests.specs.declared.device.PollStep.{PollStep}
use Rattle.oidc_oauth2_requests.specs.declared.device.PollStep.TheVariants as poll
use Rattle.oidc_tokens.specs.Refreshed.{any_nonce}
use Rattle.oidc_tokens.specs.declared.verification.refusals.ClaimsVerificationError.{ClaimsVerificationError}
use Rattle.oidc_tokens.proofs.Theorems.{failure_cause}
use Rattle.oidc_device.specs.Types.{DeviceTypes}
use Rattle.oidc_device.specs.Token.{Tokens, SeenIdToken, device_verifier, failure_for, claimed_hash}
use Rattle.oidc_device.specs.SignedIn.{SeenDeviceSignedIn, signed_by}
use Rattle.oidc_device.specs.Errors.{Error}
use Rattle.oidc_device.specs.Logins.{SeenDeviceLogin}
use Rattle.oidc_device.specs.DeviceStep.{StepReply, user_of_tokens, judged_step}
use Rattle.oidc_device.specs.Causes.{Held, Polled, Holds, Accepted, own_hash, IsSignedIn, RestsOn, LacksIdToken, FailsCheck, LacksHash, HasOtherHash, Cause}
use Rattle.oidc_device.specs.declared.step.DeviceStep.TheVariants as step
use Rattle.oidc_device.specs.declared.errors.DeviceError.TheVariants as device
use Rattle.oidc_device.proofs.Walks.{Walk, at_or, at_when, at_for, at_value}
use Rattle.oidc_device.proofs.Verdicts.{accepts, accepted}
use Rattle.oidc_device.proofs.TokenHash.{beside, differ_back, same_back, other_claim, own_claim, by_claim, by_hash, by_check}

module _ {AC GC Key Use : Type 0} (types : DeviceTypes AC GC Key Use) (login : SeenDeviceLogin Key) (now : ℤ) (answers : List SeenAnswer) where
  abbrev Q : Error → Type 0
  Q e = Cause types login now answers e

  abbrev IsUser : SeenDeviceSignedIn AC GC → Type 0
  IsUser user = IsSignedIn types login now answers user

  abbrev Is : Held AC GC → Type 0
  Is h = Holds types login now answers h

  -- ---- each row has its cause

  is_user : (h : Held AC GC) (x : Accepted types login now answers h)
      → ((claim : List ℕ) → claimed_hash h.token ≡ Some claim → own_hash types login now answers h x ≡ Some claim) → IsUser (signed_by h.token h.tokens)
  is_user h x fits = record {
    held = h;
    holds = x.holds;
    accepted = x.accepts;
    fits_hash = fits;
    own_id_token = refl;
    own_access_token = refl;
    own_refresh_token = refl;
  }

  -- by the claim in the ID token, and by the hash of the access token, where there is one
  claim-walk : (h : Held AC GC) (x : Accepted types login now answers h) (claim own : Option (List ℕ)) → claimed_hash h.token ≡ claim → own_hash types login now answers h x ≡ own
      → Walk IsUser Q (by_hash h claim (ok_or own (UnsupportedAlg (signing_text x.accepts.alg))))
  claim-walk h x None own is_claim is_own = is_user h x (λ claim is. let none = sym is_claim ∙ is in cc)
  claim-walk h x (Some claim) None is_claim is_own = record {
    held = h;
    claim = claim;
    names_hash = record { accepted = x; own_claim = is_claim };
    no_hash = is_own;
    names_algorithm = refl;
  }
  claim-walk h x (Some claim) (Some hash) is_claim is_own =
      at_when IsUser Q (not (bytes_eq hash claim)) _ _
      (λ other. record {
        held = h;
        claim = claim;
        names_hash = record { accepted = x; own_claim = is_claim };
        hash = hash;
        has_hash = is_own;
        other = differ_back hash claim other;
      }) (λ same. is_user h x (λ c is. is_own ∙ ap Some (same_back hash claim same) ∙ sym is_claim ∙ is))

  check-walk : (h : Held AC GC) → Is h → Walk IsUser Q (by_check types login.client h (failure_for types login.client now h.token))
  check-walk h holds =
      at_for IsUser Q (failure_for types login.client now h.token) _ _ (λ kind is. record {
        held = h;
        holds = holds;
        check_failed = is;
        cause = failure_cause types.keys (device_verifier types login.client) any_nonce now h.token kind is;
      }) (λ none_fails.
      let x : Accepted types login now answers h = record { holds = holds; accepts = accepts types login.client now h.token none_fails } in
      let a = x.accepts in
      subst (λ r. Walk IsUser Q (by_hash h (claimed_hash h.token) r)) (sym (beside types (device_verifier types login.client) h.token a.alg a.key a.signed a.chosen h.tokens.access_token))
      (claim-walk h x _ _ refl refl))

  user-walk : (tokens : Tokens AC GC) → Polled types login now answers (poll.Done tokens) → Walk IsUser Q (user_of_tokens types login.client now tokens)
  unfolding user_of_tokens
  user-walk tokens polled =
      at_or IsUser Q tokens.extra_fields.id_token _ _
      (λ none. record { tokens = tokens; polled = polled; no_id_token = none }) (λ token own.
      check-walk (record { tokens = tokens; token = token }) (record { polled = polled; own_id_token = own }))

  abbrev IsAnswer : (StepReply AC GC → Type 0)
  IsAnswer reply = Walk (RestsOn types login now answers) Q reply

  pub judged-walk : (answered : PollStep (Tokens AC GC)) → Polled types login now answers answered → IsAnswer (judged_step types login.client now answered)
  judged-walk poll.Pending polled = polled
  judged-walk poll.SlowDown polled = polled
  judged-walk (poll.Done tokens) polled =
      at_value IsUser (RestsOn types login now answers) Q (user_of_tokens types login.client now tokens) _ (user-walk tokens polled) (λ user is. is)

  -- ---- each cause has its row

  abbrev by_token : (tokens : Tokens AC GC) → Option (SeenIdToken AC GC) → Result (SeenDeviceSignedIn AC GC) Error
  by_token tokens found =
      (found or device.NoIdToken) >>= λ token. by_check types login.client (record { tokens = tokens; token = token }) (failure_for types login.client now token)

  tokens_by : (tokens : Tokens AC GC) (found : Option (SeenIdToken AC GC)) → tokens.extra_fields.id_token ≡ found → user_of_tokens types login.client now tokens ≡ by_token tokens found
  unfolding user_of_tokens
  tokens_by tokens found is = ap (by_token tokens) is

  abbrev done : SeenDeviceSignedIn AC GC → StepReply AC GC
  done user = Ok (step.Done user)

  abbrev unhashed : SigningError → StepReply AC GC
  unhashed refusal = Err (device.Signing refusal)

  abbrev judged : Result (SeenDeviceSignedIn AC GC) Error → StepReply AC GC
  judged m = m >>= λ user. Ok (step.Done user)

  judged_as : (tokens : Tokens AC GC) (m : Result (SeenDeviceSignedIn AC GC) Error) → user_of_tokens types login.client now tokens ≡ m
      → judged_step types login.client now (poll.Done tokens) ≡ judged m
  judged_as tokens m is = ap judged is

  -- by the first check that fails
  checked : (h : Held AC GC) (failure : Option ClaimsVerificationError) → Is h → failure_for types login.client now h.token ≡ failure
      → user_of_tokens types login.client now h.tokens ≡ by_check types login.client h failure
  checked h failure holds is = tokens_by h.tokens (Some h.token) holds.own_id_token ∙ ap (by_check types login.client h) is

  -- by its claim, once it is accepted
  claimed : (h : Held AC GC) (x : Accepted types login now answers h) (claim own : Option (List ℕ)) → claimed_hash h.token ≡ claim → own_hash types login now answers h x ≡ own
      → user_of_tokens types login.client now h.tokens ≡ by_hash h claim (ok_or own (UnsupportedAlg (signing_text x.accepts.alg)))
  claimed h x claim own is_claim is_own =
      let hash = beside types (device_verifier types login.client) h.token x.accepts.alg x.accepts.key x.accepts.signed x.accepts.chosen h.tokens.access_token in
      checked h None x.holds (accepted types login.client now h.token x.accepts)
      ∙ ap (by_hash h (claimed_hash h.token)) hash
      ∙ ap (λ c. by_hash h c (ok_or (own_hash types login now answers h x) (UnsupportedAlg (signing_text x.accepts.alg)))) is_claim
      ∙ ap (λ o. by_hash h claim (ok_or o (UnsupportedAlg (signing_text x.accepts.alg)))) is_own

  fitting : (h : Held AC GC) (x : Accepted types login now answers h) → ((claim : List ℕ) → claimed_hash h.token ≡ Some claim → own_hash types login now answers h x ≡ Some claim)
      → (claim : Option (List ℕ)) → claimed_hash h.token ≡ claim → user_of_tokens types login.client now h.tokens ≡ Ok (signed_by h.token h.tokens)
  fitting h x fits None is = claimed h x None _ is refl
  fitting h x fits (Some claim) is = claimed h x (Some claim) (Some claim) is (fits claim is) ∙ ap (by_claim h) (own_claim claim)

  own_user : (user : SeenDeviceSignedIn AC GC) (is : IsUser user) → signed_by is.held.token is.held.tokens ≡ user
  own_user user is = λ i. record {
    id_token = sym is.own_id_token i;
    access_token = sym is.own_access_token i;
    refresh_token = sym is.own_refresh_token i;
  }

  -- a user who is signed in
  pub signed_back : (user : SeenDeviceSignedIn AC GC) (is : IsUser user) → judged_step types login.client now (poll.Done is.held.tokens) ≡ Ok (step.Done user)
  signed_back user is =
      judged_as is.held.tokens _ (fitting is.held (record { holds = is.holds; accepts = is.accepted }) is.fits_hash _ refl)
      ∙ ap done (own_user user is)

  pub lacks_back : (x : LacksIdToken types login now answers) → judged_step types login.client now (poll.Done x.tokens) ≡ Err device.NoIdToken
  lacks_back x = judged_as x.tokens _ (tokens_by x.tokens None x.no_id_token)

  pub fails_back : (kind : ClaimsVerificationError) (x : FailsCheck types login now answers kind) → judged_step types login.client now (poll.Done x.held.tokens) ≡ Err (device.Claims kind)
  fails_back kind x = judged_as x.held.tokens _ (checked x.held (Some kind) x.holds x.check_failed)

  pub unhashed_back : (refusal : SigningError) (x : LacksHash types login now answers refusal) → judged_step types login.client now (poll.Done x.held.tokens) ≡ Err (device.Signing refusal)
  unhashed_back refusal x =
      judged_as x.held.tokens _ (claimed x.held x.names_hash.accepted (Some x.claim) None x.names_hash.own_claim x.no_hash)
      ∙ ap unhashed (sym x.names_algorithm)

  pub other_back : (x : HasOtherHash types login now answers) → judged_step types login.client now (poll.Done x.held.tokens) ≡ Err device.TokenHash
  other_back x =
      judged_as x.held.tokens _
      (claimed x.held x.names_hash.accepted (Some x.claim) (Some x.hash) x.names_hash.own_claim x.has_hash
      ∙ ap (by_claim x.held) (other_claim x.claim x.hash x.other))
