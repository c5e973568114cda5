-- What a begin says, step by step, and the cause of each of its refusals.
use Rattle.std.proofs.Common.{◌≡◌, ◌≢◌, ◌<◌, ◌≤◌, ℕ, List, Bool, true, false, Some, length, Ok, Err, refl, sym, ap, subst, ◌∙◌, arith}
use Rattle.std.specs.Prelude.{not, ◌&&◌, is_some}
use Rattle.std.specs.FinMap as finite
use Rattle.std.specs.Str.{bytes_eq}
use Rattle.std.proofs.lemmas.Bool.Decides.{nat_tests}
use Rattle.url.specs.Parts.{Parts, serialize}
use Rattle.oidc_oauth2.specs.Pkce.{is_verifier, s256}
use Rattle.oidc_oauth2.specs.Replies.{◌>>=◌, ◌>>◌, ◌when◌}
use Rattle.oidc_client.specs.Authorization.{IsUnmanagedBeside, StandOnce}
use Rattle.oidc_login.specs.Logins.{Pending}
use Rattle.oidc_login.specs.Begin.{LoginRequest, Begin, Meant, Begins, is_code_flow, is_long_url, url_with, challenge_or_refusal, url_or_refusal, reply_by}
use Rattle.oidc_login.specs.Events.{is_accepted}
use Rattle.oidc_login.specs.declared.errors.BeginError.{BeginError}
use Rattle.oidc_login.specs.declared.errors.BeginError.TheVariants as begin
use Rattle.oidc_login.proofs.TokenHash.{differ_back}

-- ---- steps

-- a refusal before the next step is the refusal of both
pub onward : {A B : Type 0} (e : BeginError) (meant : Meant A) (next : A → Meant B) → Begins (Err e) meant → Begins (Err e) (meant >>= next)
onward begin.Flow meant next is = ap (λ m. m >>= next) is
onward begin.ClientId meant next is = ap (λ m. m >>= next) is
onward begin.Verifier meant next is = ap (λ m. m >>= next) is
onward begin.UserInfoEndpoint meant next is = ap (λ m. m >>= next) is
onward begin.Pending meant next is = ap (λ m. m >>= next) is
onward begin.TooLong meant next is = ap (λ m. m >>= next) is
onward begin.Memory meant next is = tt

module _ (client_id : List ℕ) (has_endpoint : Bool) (pending : Pending) (b : Begin) where
  pub refused : (e : BeginError) → Begins (Err e) (challenge_or_refusal client_id has_endpoint pending b)
      → Begins (Err e) (reply_by client_id has_endpoint pending b)
  refused e is = onward e (challenge_or_refusal client_id has_endpoint pending b) (url_or_refusal b.request) is

  -- once there is a challenge, the reply is that on the URL
  pub passed : (challenge : List ℕ) → challenge_or_refusal client_id has_endpoint pending b ≡ Ok challenge
      → reply_by client_id has_endpoint pending b ≡ url_or_refusal b.request challenge
  passed challenge is = ap (λ m. m >>= url_or_refusal b.request) is

-- ---- the row on the URL

short : (url : Parts) → length (serialize url) ≤ 1_048_576 → is_long_url url ≡ false
short url is = grind (arith, nat_tests)

long_back : (url : Parts) → 1_048_576 < length (serialize url) → is_long_url url ≡ true
long_back url is = grind (arith, nat_tests)

module _ (request : LoginRequest) (challenge : List ℕ) where
  abbrev row : Bool → Meant Parts
  row long = (begin.TooLong when long) >> Ok (url_with request challenge)

  pub fitting : (url : Parts) → url ≡ url_with request challenge → length (serialize url) ≤ 1_048_576 → url_or_refusal request challenge ≡ Ok url
  unfolding url_or_refusal
  fitting url is fits = ap row (short (url_with request challenge) (subst (λ u. length (serialize u) ≤ 1_048_576) is fits)) ∙ ap Ok (sym is)

  pub too_long : 1_048_576 < length (serialize (url_with request challenge)) → url_or_refusal request challenge ≡ Err begin.TooLong
  unfolding url_or_refusal
  too_long is = ap row (long_back (url_with request challenge) is)

-- a test that isn't false
pub is_true : (b : Bool) → (b ≡ false → ⊥) → b ≡ true
is_true true is = refl
is_true false is = absurd (is refl)

-- what client ID, state, nonce and redirect have to do with nothing else of a request
pub stand_without : (request : LoginRequest) (challenge : List ℕ) (url : Parts) → StandOnce (record request { challenge = Some challenge }) url → StandOnce request url
stand_without request challenge url x = record { client_id = x.client_id; state = x.state; nonce = x.nonce; redirect_uri = x.redirect_uri }

pub unmanaged_with : (request : LoginRequest) (challenge : List ℕ) → IsUnmanagedBeside request → IsUnmanagedBeside (record request { challenge = Some challenge })
unmanaged_with request challenge x = record { query = x.query; extra = x.extra }

pub once_without : (request : LoginRequest) (challenge : List ℕ) (url : Parts)
    → (IsUnmanagedBeside (record request { challenge = Some challenge }) → StandOnce (record request { challenge = Some challenge }) url)
    → IsUnmanagedBeside request → StandOnce request url
once_without request challenge url once unmanaged = stand_without request challenge url (once (unmanaged_with request challenge unmanaged))

-- ---- causes

-- the value, or the cause of the refusal
abbrev pub Walk : {A : Type 0} → (BeginError → Type 0) → Meant A → Type 0
Walk Q (Ok x) = Unit {0}
Walk Q (Err e) = Q e

at_when : {A : Type 0} (Q : BeginError → Type 0) (b : Bool) (e : BeginError) (next : Meant A) → (b ≡ true → Q e) → (b ≡ false → Walk Q next) → Walk Q ((e when b) >> next)
at_when Q true e next row_holds goes_on = row_holds refl
at_when Q false e next row_holds goes_on = goes_on refl

at_then : {A B : Type 0} (Q : BeginError → Type 0) (meant : Meant A) (next : A → Meant B) → Walk Q meant → ((x : A) → meant ≡ Ok x → Walk Q (next x)) → Walk Q (meant >>= next)
at_then Q (Ok x) next row_holds goes_on = goes_on x refl
at_then Q (Err e) next row_holds goes_on = row_holds

not_false : (b : Bool) → not b ≡ true → b ≡ false
not_false true is = cc
not_false false is = refl

when_ok : {A : Type 0} (e : BeginError) (b : Bool) (next : Meant A) (x : A) → ((e when b) >> next) ≡ Ok x → next ≡ Ok x
when_ok e true next x is = absurd cc
when_ok e false next x is = is

same_ok : (x y : List ℕ) → ◌≡◌ {A = Meant (List ℕ)} (Ok x) (Ok y) → x ≡ y
same_ok x y is = cc

long : (url : Parts) → is_long_url url ≡ true → 1_048_576 < length (serialize url)
long url is = grind (arith, nat_tests)

both_true : (x y : Bool) → (x && not y) ≡ true → (x ≡ true) × (y ≡ false)
both_true true true is = absurd cc
both_true true false is = (refl, refl)
both_true false y is = absurd cc

module _ (client_id : List ℕ) (has_endpoint : Bool) (pending : Pending) (b : Begin) where
  abbrev pub Cause : BeginError → Type 0
  Cause begin.Flow = is_code_flow b.request.flow ≡ false
  Cause begin.ClientId = b.request.client_id ≢ client_id
  Cause begin.Verifier = is_verifier b.verifier ≡ false
  Cause begin.UserInfoEndpoint = (is_some b.user_info ≡ true) × (has_endpoint ≡ false)
  Cause begin.Pending = finite.contains_key pending b.request.state ≡ true
  Cause begin.TooLong = 1_048_576 < length (serialize (url_with b.request (s256 b.verifier)))
  Cause begin.Memory = Unit {0}

  abbrev pub reply : Meant Parts
  reply = reply_by client_id has_endpoint pending b

  challenge-walk : Walk Cause (challenge_or_refusal client_id has_endpoint pending b)
  unfolding challenge_or_refusal
  challenge-walk =
      at_when Cause (not (is_code_flow b.request.flow)) _ _ (not_false (is_code_flow b.request.flow)) (λ code.
      at_when Cause (not (bytes_eq b.request.client_id client_id)) _ _ (differ_back b.request.client_id client_id) (λ same.
      at_when Cause (not (is_verifier b.verifier)) _ _ (not_false (is_verifier b.verifier)) (λ fits.
      at_when Cause (is_some b.user_info && not has_endpoint) _ _ (both_true (is_some b.user_info) has_endpoint) (λ endpoint.
      at_when Cause (finite.contains_key pending b.request.state) _ _ (λ is. is) (λ free. tt)))))

  own : (challenge : List ℕ) → challenge_or_refusal client_id has_endpoint pending b ≡ Ok challenge → s256 b.verifier ≡ challenge
  unfolding challenge_or_refusal
  own challenge is =
      same_ok _ _
      (when_ok begin.Pending (finite.contains_key pending b.request.state) _ challenge
      (when_ok begin.UserInfoEndpoint (is_some b.user_info && not has_endpoint) _ challenge
      (when_ok begin.Verifier (not (is_verifier b.verifier)) _ challenge
      (when_ok begin.ClientId (not (bytes_eq b.request.client_id client_id)) _ challenge
      (when_ok begin.Flow (not (is_code_flow b.request.flow)) _ challenge is)))))

  url-walk : (challenge : List ℕ) → s256 b.verifier ≡ challenge → Walk Cause (url_or_refusal b.request challenge)
  unfolding url_or_refusal
  url-walk challenge same =
      at_when Cause (is_long_url (url_with b.request challenge)) _ _
      (λ is. subst (λ c. 1_048_576 < length (serialize (url_with b.request c))) (sym same) (long (url_with b.request challenge) is)) (λ short. tt)

  reply-walk : Walk Cause reply
  reply-walk =
      at_then Cause (challenge_or_refusal client_id has_endpoint pending b) (url_or_refusal b.request) challenge-walk
      (λ challenge is. url-walk challenge (own challenge is))

  caused : (e : BeginError) → Begins (Err e) reply → Cause e
  caused begin.Flow is = subst (Walk Cause) (sym is) reply-walk
  caused begin.ClientId is = subst (Walk Cause) (sym is) reply-walk
  caused begin.Verifier is = subst (Walk Cause) (sym is) reply-walk
  caused begin.UserInfoEndpoint is = subst (Walk Cause) (sym is) reply-walk
  caused begin.Pending is = subst (Walk Cause) (sym is) reply-walk
  caused begin.TooLong is = subst (Walk Cause) (sym is) reply-walk
  caused begin.Memory is = tt

  -- a begin that was refused has the refusal's cause
  pub cause_of : (e : BeginError) (result : Meant Parts) → Begins result reply → result ≡ Err e → Cause e
  cause_of e result gives is = caused e (subst (λ r. Begins r reply) is gives)

  -- ---- user info is demanded only where there is an endpoint

  when_passed : {A : Type 0} (e : BeginError) (t : Bool) (next : Meant A) (x : A) → ((e when t) >> next) ≡ Ok x → t ≡ false
  when_passed e true next x is = absurd cc
  when_passed e false next x is = refl

  has_by : (demand : Bool) → (demand && not has_endpoint) ≡ false → demand ≡ true → has_endpoint ≡ true
  has_by true fits is = is_true has_endpoint (λ none. let both = sym fits ∙ ap not none in cc)
  has_by false fits is = cc

  challenged : (challenge : List ℕ) → challenge_or_refusal client_id has_endpoint pending b ≡ Ok challenge → is_some b.user_info ≡ true → has_endpoint ≡ true
  unfolding challenge_or_refusal
  challenged challenge is =
      has_by (is_some b.user_info)
      (when_passed begin.UserInfoEndpoint (is_some b.user_info && not has_endpoint) _ challenge
      (when_ok begin.Verifier (not (is_verifier b.verifier)) _ challenge
      (when_ok begin.ClientId (not (bytes_eq b.request.client_id client_id)) _ challenge
      (when_ok begin.Flow (not (is_code_flow b.request.flow)) _ challenge is))))

  free : (challenge : List ℕ) → challenge_or_refusal client_id has_endpoint pending b ≡ Ok challenge → finite.contains_key pending b.request.state ≡ false
  unfolding challenge_or_refusal
  free challenge is =
      when_passed begin.Pending (finite.contains_key pending b.request.state) _ challenge
      (when_ok begin.UserInfoEndpoint (is_some b.user_info && not has_endpoint) _ challenge
      (when_ok begin.Verifier (not (is_verifier b.verifier)) _ challenge
      (when_ok begin.ClientId (not (bytes_eq b.request.client_id client_id)) _ challenge
      (when_ok begin.Flow (not (is_code_flow b.request.flow)) _ challenge is))))

  free_by : (m : Meant (List ℕ)) → challenge_or_refusal client_id has_endpoint pending b ≡ m → is_accepted (m >>= url_or_refusal b.request) ≡ true → finite.contains_key pending b.request.state ≡ false
  free_by (Ok challenge) is accepted = free challenge is
  free_by (Err e) is accepted = absurd cc

  -- the state of an accepted begin was not pending
  pub was_free : is_accepted reply ≡ true → finite.contains_key pending b.request.state ≡ false
  was_free accepted = free_by _ refl accepted

  accepted_by : (m : Meant (List ℕ)) (url : Parts) → challenge_or_refusal client_id has_endpoint pending b ≡ m → Ok url ≡ (m >>= url_or_refusal b.request) → is_some b.user_info ≡ true → has_endpoint ≡ true
  accepted_by (Ok challenge) url is given = challenged challenge is
  accepted_by (Err e) url is given = absurd cc

  -- the login of an accepted begin
  pub endpoint_there : (url : Parts) → Begins (Ok url) reply → is_some b.user_info ≡ true → has_endpoint ≡ true
  endpoint_there url given = accepted_by _ url refl given
