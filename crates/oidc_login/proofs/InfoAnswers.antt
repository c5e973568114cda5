-- What a response to a user info request is worth is never a fault of the transport, a request that isn't made, want of
-- memory, or too long; claims in it are about the expected subject; and what the steps answer by it.
use Rattle.std.proofs.Common.{◌≡◌, ◌==◌, ℕ, List, Bool, true, false, Option, None, Some, Result, Ok, Err, refl, sym, ap, subst, ◌∙◌}
use Rattle.std.specs.Prelude.{not, if◌then◌else◌, codes}
use Rattle.std.specs.Str.{is_utf8}
use Rattle.oidc_members.specs.declared.refusal.Refusal.{Refusal}
use Rattle.oidc_oauth2.specs.Messages.{SeenRequest, SeenResponse, SeenAnswer}
use Rattle.oidc_oauth2.specs.Transport.{first_answer}
use Rattle.oidc_oauth2.specs.HttpUtils.{may_be}
use Rattle.oidc_oauth2.specs.Replies.{◌>>=◌, ◌>>◌, ◌when◌, ◌for◌, ◌or_as◌, Gives}
use Rattle.oidc_oauth2.specs.TokenAnswers.{is_over_long}
use Rattle.oidc_tokens.specs.UserInfoVerification.{is_expected_subject}
use Rattle.oidc_tokens.specs.declared.verification.refusals.ClaimsVerificationError.{ClaimsVerificationError}
use Rattle.oidc_tokens.proofs.Theorems.{about, info_accepts}
use Rattle.oidc_user_info.specs.UserInfoClaims.{SeenUserInfoClaims, parties_of}
use Rattle.oidc_user_info.specs.InfoErrors.{InfoRefusal, info_errors}
use Rattle.oidc_user_info.specs.InfoAnswers.{Demand, claims_in, token_in, failure_of, from_json, of_object, of_token, by_media_type, info_answer}
use Rattle.oidc_user_info.specs.InfoRequests.{SeenInfoRequest, info_request}
use Rattle.oidc_user_info.specs.InfoCauses.{IsUserInfo, Cause}
use Rattle.oidc_user_info.specs.InfoRuns.{reply_of, run_of, reply}
use Rattle.oidc_user_info.specs.declared.errors.InfoOther.TheVariants as other
use Rattle.oidc_user_info.specs.declared.errors.ResponseCause.TheVariants.{Status}
use Rattle.oidc_user_info.specs.declared.errors.UserInfoError.{UserInfoError}
use Rattle.oidc_user_info.specs.declared.errors.UserInfoError.TheVariants as info
use Rattle.oidc_login.specs.Types.{SiteTypes}
use Rattle.oidc_login.specs.Errors.{login_errors, faulted, spent_of}
use Rattle.oidc_login.specs.Steps.{of_info, info_of}
use Rattle.oidc_login.specs.Callback.{Meant}
use Rattle.oidc_login.specs.declared.errors.TooLong.TheVariants as place
use Rattle.oidc_login.specs.declared.errors.LoginError.TheVariants as login
use Rattle.oidc_login.proofs.NoMemory.{NeverWants}
use Rattle.oidc_user_info.proofs.Theorems.{Rests, rests, holds_reply, refused_reply}

-- ---- refusals that a response alone can be worth, and what is known of the claims in it

abbrev pub IsOwn : {A : Type 0} → (A → Type 0) → Result A InfoRefusal → Type 0
IsOwn P (Ok x) = P x
IsOwn P (Err (info.Request u)) = ⊥
IsOwn P (Err (info.Other other.Bearer)) = ⊥
IsOwn P (Err (info.Other other.Uri)) = ⊥
IsOwn P (Err (info.TooLong body)) = ⊥
IsOwn P (Err info.Memory) = ⊥
IsOwn P (Err e) = Unit {0}

module _ {A : Type 0} (P : A → Type 0) where
  own_when : (e : InfoRefusal) (b : Bool) (next : Result A InfoRefusal) → IsOwn P (Err e) → (b ≡ false → IsOwn P next) → IsOwn P ((e when b) >> next)
  own_when e true next own later = own
  own_when e false next own later = later refl

  own_read : {B : Type 0} (read : Result B Refusal) (f : B → Result A InfoRefusal) → ((x : B) → IsOwn P (f x)) → IsOwn P ((read or_as info.Parse) >>= f)
  own_read (Ok x) f later = later x
  own_read (Err refusal) f later = tt

  own_if : (b : Bool) (x y : Result A InfoRefusal) → IsOwn P x → IsOwn P y → IsOwn P (if b then x else y)
  own_if true x y here there = here
  own_if false x y here there = there

  own_for : (failure : Option ClaimsVerificationError) (x : A) → (failure ≡ None → P x) → IsOwn P ((info.ClaimsVerification for failure) >> Ok x)
  own_for None x passes = passes refl
  own_for (Some kind) x passes = tt

not_false : (b : Bool) → not b ≡ false → b ≡ true
not_false true is = refl
not_false false is = cc

-- ---- a response

module _ {AC GC Key Use : Type 0} (types : SiteTypes AC GC Key Use) (demand : Demand Key) where
  -- claims are about the expected subject
  abbrev pub IsAbout : SeenUserInfoClaims AC GC → Type 0
  IsAbout found = (expected : List ℕ) → demand.verifier.expected_subject ≡ Some expected → found.standard_claims.subject ≡ expected

  abbrev pub Own : Result (SeenUserInfoClaims AC GC) InfoRefusal → Type 0
  Own = IsOwn IsAbout

  json_own : (body : List ℕ) → Own (from_json types.additional types.gender demand.reading demand.verifier.expected_subject body)
  unfolding from_json
  json_own body =
      own_read IsAbout (claims_in types.additional types.gender demand.reading body) _ (λ found.
      own_when IsAbout _ (not (is_expected_subject demand.verifier.expected_subject found.standard_claims.subject)) _ tt (λ passes.
      about demand.verifier.expected_subject found.standard_claims.subject (not_false _ passes)))

  object_own : (body : List ℕ) → Own (of_object types.additional types.gender demand body)
  unfolding of_object
  object_own body = own_when IsAbout _ demand.signed _ tt (λ unsigned. json_own body)

  token_own : (body : List ℕ) → Own (of_token types demand.reading demand.verifier body)
  unfolding of_token
  token_own body =
      own_when IsAbout _ (not (is_utf8 body)) _ tt (λ text.
      own_read IsAbout (token_in types demand.reading body) _ (λ token.
      own_for IsAbout (failure_of types demand.verifier token) token.payload
      (λ none. (info_accepts types.keys demand.verifier token (parties_of token.payload) none).subject)))

  media_own : (r : SeenResponse) → Own (by_media_type types demand r)
  unfolding by_media_type
  media_own r =
      own_if IsAbout (may_be r.content_type (codes "application/json")) _ _ (object_own r.body)
      (own_if IsAbout (may_be r.content_type (codes "application/jwt")) _ _ (token_own r.body) tt)

  -- a response whose body isn't too long
  abbrev short_worth : SeenResponse → Result (SeenUserInfoClaims AC GC) InfoRefusal
  short_worth r = (info.Response r.status r.body Status when not (r.status == 200)) >> by_media_type types demand r

  short_own : (r : SeenResponse) → Own (short_worth r)
  short_own r = own_when IsAbout _ (not (r.status == 200)) _ tt (λ success. media_own r)

  short_answer : (r : SeenResponse) → is_over_long r.body ≡ false → info_answer types demand r ≡ short_worth r
  unfolding info_answer
  short_answer r short = ap (λ long. (info.TooLong r.body when long) >> short_worth r) short

  pub info_own : (r : SeenResponse) → is_over_long r.body ≡ false → Own (info_answer types demand r)
  info_own r short = rw (short_answer r short) (short_own r)

-- ---- the step on a response

module _ {A : Type 0} (P : A → Type 0) where
  abbrev sized : Bool → List ℕ → Result A InfoRefusal → Result A InfoRefusal
  sized long body short = (info.TooLong body when long) >> short

  abbrev row : Bool → Result A InfoRefusal → Meant A
  row long meant = (login.TooLong place.UserInfoAnswer when long) >> (meant or_as login.UserInfo)

  ok_row : (long : Bool) (body : List ℕ) (short : Result A InfoRefusal) (x : A) → sized long body short ≡ Ok x → row long (sized long body short) ≡ Ok x
  ok_row true body short x is = cc
  ok_row false body short x is = ap (λ m. m or_as login.UserInfo) is

  own_row : (long : Bool) (body : List ℕ) (short : Result A InfoRefusal) (e : InfoRefusal) → (info.TooLong body ≡ e → ⊥)
      → sized long body short ≡ Err e → row long (sized long body short) ≡ Err (login.UserInfo e)
  own_row true body short e other is = absurd (other (ap (λ r. elim r as (λ _. InfoRefusal) [ Ok x ↦ e | Err y ↦ y ]) is))
  own_row false body short e other is = ap (λ m. m or_as login.UserInfo) is

  long_row : (long : Bool) (body b : List ℕ) (short : Result A InfoRefusal) → IsOwn P short
      → sized long body short ≡ Err (info.TooLong b) → row long (sized long body short) ≡ Err (login.TooLong place.UserInfoAnswer)
  long_row true body b short own is = refl
  long_row false body b short own is = absurd (subst (IsOwn P) is own)

  never_fault : (long : Bool) (body : List ℕ) (short : Result A InfoRefusal) → IsOwn P short → sized long body short ≡ Err (info.Request tt) → ⊥
  never_fault true body short own is = cc
  never_fault false body short own is = subst (IsOwn P) is own

  module _ {E : Type 0} where
    err_row : (long : Bool) (body : List ℕ) (short : Result A InfoRefusal) (e : UserInfoError E) → IsOwn P short
        → Gives info_errors {A = A} (Err e) (sized long body short) → Gives login_errors {A = A} (Err (of_info e)) (row long (sized long body short))
    err_row long body short (info.ClaimsVerification kind) own is = own_row long body short _ (λ same. cc) is
    err_row long body short (info.Parse refusal) own is = own_row long body short _ (λ same. cc) is
    err_row long body short (info.Request cause) own is = absurd (never_fault long body short own is)
    err_row long body short (info.Response status text cause) own is = own_row long body short _ (λ same. cc) is
    err_row long body short (info.Other cause) own is = own_row long body short _ (λ same. cc) is
    err_row long body short (info.TooLong b) own is = long_row long body b short own is
    err_row long body short info.Memory own is = tt

    no_fault : (long : Bool) (body : List ℕ) (short : Result A InfoRefusal) (e : UserInfoError E) → IsOwn P short
        → Gives info_errors {A = A} (Err e) (sized long body short) → faulted (of_info e) ≡ false
    no_fault long body short (info.ClaimsVerification kind) own is = refl
    no_fault long body short (info.Parse refusal) own is = refl
    no_fault long body short (info.Request cause) own is = absurd (never_fault long body short own is)
    no_fault long body short (info.Response status text cause) own is = refl
    no_fault long body short (info.Other cause) own is = refl
    no_fault long body short (info.TooLong b) own is = refl
    no_fault long body short info.Memory own is = refl

module _ {E : Type 0} where
  pub of_info_spent : (e : UserInfoError E) → spent_of (of_info e) ≡ true
  of_info_spent (info.ClaimsVerification kind) = refl
  of_info_spent (info.Parse refusal) = refl
  of_info_spent (info.Request cause) = refl
  of_info_spent (info.Response status text cause) = refl
  of_info_spent (info.Other cause) = refl
  of_info_spent (info.TooLong b) = refl
  of_info_spent info.Memory = refl

module _ {AC GC Key Use : Type 0} (types : SiteTypes AC GC Key Use) (demand : Demand Key) (r : SeenResponse) where
  pub info_given : (found : SeenUserInfoClaims AC GC) → info_answer types demand r ≡ Ok found → info_of types demand r ≡ Ok found
  unfolding info_answer info_of
  info_given found is = ok_row (IsAbout types demand) (is_over_long r.body) r.body (short_worth types demand r) found is

  module _ {E : Type 0} (e : UserInfoError E) (is : Gives info_errors {A = SeenUserInfoClaims AC GC} (Err e) (info_answer types demand r)) where
    pub info_refusal_given : Gives login_errors {A = SeenUserInfoClaims AC GC} (Err (of_info e)) (info_of types demand r)
    unfolding info_answer info_of
    info_refusal_given = err_row (IsAbout types demand) (is_over_long r.body) r.body (short_worth types demand r) e (short_own types demand r) is

    pub info_no_fault : faulted (of_info e) ≡ false
    unfolding info_answer
    info_no_fault = no_fault (IsAbout types demand) (is_over_long r.body) r.body (short_worth types demand r) e (short_own types demand r) is

-- ---- what a response rests on, by the rows on it, and back

module _ {AC GC Key Use : Type 0} (types : SiteTypes AC GC Key Use) (ask : SeenInfoRequest Key) (answers : List SeenAnswer)
    (request : SeenRequest) (made : info_request ask ≡ Ok request) (r : SeenResponse) (came : first_answer answers ≡ Some r) where
  reply_is : reply types ask answers ≡ info_answer types ask.demand r
  reply_is = ap (λ m. (run_of types ask.demand m answers).reply) made ∙ ap (reply_of types ask.demand) came

  pub info_rests : NeverWants types → Rests types ask answers (info_answer types ask.demand r)
  info_rests never = subst (Rests types ask answers) reply_is (rests types ask answers never)

  pub found_back : (found : SeenUserInfoClaims AC GC) → IsUserInfo ask answers types found → info_answer types ask.demand r ≡ Ok found
  found_back found held = sym reply_is ∙ holds_reply types ask answers found held

  pub unfound_back : (e : InfoRefusal) → Cause ask answers types e → info_answer types ask.demand r ≡ Err e
  unfound_back e cause = sym reply_is ∙ refused_reply types ask answers e cause
