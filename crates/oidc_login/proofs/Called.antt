-- What the whole of a callback says of single refusals, and of an Ok.
use Rattle.std.proofs.Common.{◌≡◌, ℕ, List, drop, Bool, true, false, Option, None, Some, Result, Ok, Err, refl, sym, ap, subst, ◌∙◌}
use Rattle.std.specs.Prelude.{is_some, IfOk, IfErr, IfSome, IsSome, IsSomeAnd, OnOk}
use Rattle.oidc_pairs.specs.Pairs.{pairs}
use Rattle.oidc_types.specs.declared.core_authorization.CoreAuthErrorResponseType.{CoreAuthErrorResponseType}
use Rattle.oidc_types.specs.declared.signing_error.SigningError.{SigningError}
use Rattle.oidc_types.specs.declared.signing_error.SigningError.TheVariants as signing
use Rattle.oidc_oauth2.specs.Messages.{SeenAnswer}
use Rattle.oidc_oauth2.specs.Replies.{Unless, OrMemory, Gives}
use Rattle.oidc_oauth2.specs.Exchanges.{Known}
use Rattle.oidc_oauth2.specs.TokenAnswers.{is_over_long}
use Rattle.oidc_oauth2.specs.ErrorResponse.{SeenError}
use Rattle.oidc_oauth2.specs.declared.error_types.CoreErrorResponseType.{CoreErrorResponseType}
use Rattle.oidc_oauth2.specs.declared.token_answers.OtherCause.TheVariants as other
use Rattle.oidc_oauth2.specs.declared.token_answers.RequestTokenError.{RequestTokenError}
use Rattle.oidc_oauth2.specs.declared.token_answers.RequestTokenError.TheVariants as token_error
use Rattle.oidc_tokens.specs.declared.verification.refusals.ClaimsVerificationError.{ClaimsVerificationError}
use Rattle.oidc_tokens.specs.declared.verification.refusals.ClaimsVerificationError.TheVariants as check
use Rattle.oidc_user_info.specs.UserInfoClaims.{SeenUserInfoClaims}
use Rattle.oidc_user_info.specs.InfoErrors.{seen_refusal as seen_info}
use Rattle.oidc_user_info.specs.InfoRequests.{SeenInfoRequest}
use Rattle.oidc_user_info.specs.InfoCauses as info_causes
use Rattle.oidc_user_info.specs.declared.errors.UserInfoError.{UserInfoError}
use Rattle.oidc_user_info.specs.declared.errors.UserInfoError.TheVariants as info_error
use Rattle.oidc_login.specs.Types.{SiteTypes}
use Rattle.oidc_login.specs.Logins.{SeenLogin}
use Rattle.oidc_login.specs.Token.{subject_of, IsAcceptedBy, claimed_hash, HasOwnHash}
use Rattle.oidc_login.specs.SignedIn.{SeenSignedIn}
use Rattle.oidc_login.specs.Errors.{Error, seen, wants_memory, is_wanting, hides_memory, login_errors}
use Rattle.oidc_login.specs.BeforeRequest.{login_named_by}
use Rattle.oidc_login.specs.Callback.{Attempt}
use Rattle.oidc_login.specs.Causes.{HasError, LacksCode, HasNoRequest, Held, HoldsInfo, HasInfo, IsSignedIn, UserInfoCause, Cause}
use Rattle.oidc_login.specs.Runs.{Ran}
use Rattle.oidc_login.specs.declared.errors.LoginError.{LoginError}
use Rattle.oidc_login.specs.declared.errors.LoginError.TheVariants as login
use Rattle.oidc_login.specs.declared.errors.TooLong.TheVariants as place
use Rattle.oidc_login.proofs.NoMemory.{NeverWants, wanting, never_wanted, never_wanting, never_memory}
use Rattle.oidc_login.proofs.TokenHash.{fits_own}
use Rattle.oidc_login.proofs.InfoAnswers.{IsOwn, IsAbout, info_own}
use Rattle.oidc_login.proofs.Asked.{about}
use Rattle.oidc_login.proofs.Found.{info_answered}

module _ {E : Type 0} where
  is_state : (e : LoginError E) → login.State ≡ seen e → e ≡ login.State
  is_state (login.TooLong at) is = cc
  is_state login.State is = refl
  is_state (login.Provider code) is = cc
  is_state login.Callback is = cc
  is_state (login.Token e) is = cc
  is_state login.NoIdToken is = cc
  is_state (login.Claims kind) is = cc
  is_state (login.Signing refusal) is = cc
  is_state login.TokenHash is = cc
  is_state (login.UserInfo e) is = cc
  is_state (login.Memory spent) is = cc

module _ {A : Type 0} where
  same_refusal : (x y : Error) → ◌≡◌ {A = Result A Error} (Err x) (Err y) → x ≡ y
  same_refusal x y e = ap (λ r. elim r as (λ _. Error) [ Ok signed ↦ x | Err z ↦ z ]) e

unless_state : {E : Type 0} (A : Type 0) (memory : Bool) (e : LoginError E) → Unless memory (◌≡◌ {A = Result A Error} (Err login.State) (Err (seen e)))
    → Unless memory (◌≡◌ {A = Result A (LoginError E)} (Err e) (Err login.State))
unless_state A true e is = tt
unless_state A false e is = ap Err (is_state e (same_refusal {A = A} _ _ is))

given_state : {A E : Type 0} (result : Result A (LoginError E)) → Gives login_errors result (Err login.State) → OrMemory login_errors result (result ≡ Err login.State)
given_state (Ok signed) gives = cc
given_state {A = A} (Err e) gives = unless_state A (wants_memory e) e gives

-- ---- user info is about the ID token's subject

module _ {AC GC Key Use : Type 0} (types : SiteTypes AC GC Key Use) (a : Attempt Key) where
  -- a refusal that has its cause
  caused_wanted : (ask : SeenInfoRequest Key) (answers : List SeenAnswer) (e : ClaimsVerificationError)
      → info_causes.Cause ask answers types (info_error.ClaimsVerification e) → is_wanting e ≡ false
  caused_wanted ask answers e cause =
      let caused : (k : ClaimsVerificationError) → e ≡ k → info_causes.Cause ask answers types (info_error.ClaimsVerification k) =
      λ k is. subst (λ k. info_causes.Cause ask answers types (info_error.ClaimsVerification k)) is cause in
      never_wanted e (caused check.Memory) (caused wanting)

  module _ (answers : List SeenAnswer) where
    info_subject : (signed : SeenSignedIn AC GC) (is : IsSignedIn types a answers signed) (found : SeenUserInfoClaims AC GC) → HoldsInfo types a answers is.held found
        → found.standard_claims.subject ≡ subject_of signed.id_token
    info_subject signed is found x =
        let d = x.answered.asked.demands in
        let subject = about a.client d.demand is.held.tokens.access_token (subject_of is.held.token) x.ask d.own_ask in
        subst (IsOwn (IsAbout types x.ask.demand)) (info_answered types a answers is.held found x) (info_own types x.ask.demand x.response x.answered.not_too_long) (subject_of is.held.token) subject
        ∙ ap subject_of (sym is.own_id_token)

    by_info : (signed : SeenSignedIn AC GC) (is : IsSignedIn types a answers signed) (found : Option (SeenUserInfoClaims AC GC)) → HasInfo types a answers is.held found
        → IfSome found (λ x. x.standard_claims.subject ≡ subject_of signed.id_token)
    by_info signed is None none = tt
    by_info signed is (Some found) holds = info_subject signed is found holds

    pub subject : (signed : SeenSignedIn AC GC) → IsSignedIn types a answers signed → IfSome signed.user_info (λ x. x.standard_claims.subject ≡ subject_of signed.id_token)
    subject signed is = by_info signed is signed.user_info is.info

    -- ---- what an Ok says of the named login

    some_and : (o : Option SeenLogin) (l : SeenLogin) (P : SeenLogin → Type 0) → o ≡ Some l → P l → IsSomeAnd o P
    some_and o l P is p = subst (λ x. IsSomeAnd x P) (sym is) p

    pub named : (signed : SeenSignedIn AC GC) → IsSignedIn types a answers signed → IsSome (login_named_by a.pending (pairs a.query))
    named signed is = ap is_some is.holds.reads.answered.asked.has_code.names.login_named

    pub accepted : (signed : SeenSignedIn AC GC) → IsSignedIn types a answers signed
        → IsSomeAnd (login_named_by a.pending (pairs a.query)) (λ l. IsAcceptedBy types a.client l.nonce a.now signed.id_token)
    accepted signed is =
        some_and _ is.held.login (λ l. IsAcceptedBy types a.client l.nonce a.now signed.id_token) is.holds.reads.answered.asked.has_code.names.login_named
        (subst (IsAcceptedBy types a.client is.held.login.nonce a.now) (sym is.own_id_token) is.accepted)

    hash_by : (signed : SeenSignedIn AC GC) (is : IsSignedIn types a answers signed) → HasOwnHash types a.client is.held.token is.held.tokens.access_token
    hash_by signed is =
        fits_own types a.client is.held.login.nonce a.now is.held.token is.accepted (claimed_hash is.held.token) is.held.tokens.access_token is.fits_hash

    pub hash : (signed : SeenSignedIn AC GC) → IsSignedIn types a answers signed → HasOwnHash types a.client signed.id_token signed.access_token
    hash signed is =
        subst (λ t. HasOwnHash types a.client t signed.access_token) (sym is.own_id_token)
        (subst (λ t. HasOwnHash types a.client is.held.token t) (sym is.own_access_token) (hash_by signed is))

    demanded_by : (h : Held AC GC) (found : Option (SeenUserInfoClaims AC GC)) → HasInfo types a answers h found → is_some found ≡ is_some h.login.user_info
    demanded_by h None none = sym (ap is_some none)
    demanded_by h (Some found) x = sym (ap is_some x.answered.asked.demands.demanded)

    pub info_there : (signed : SeenSignedIn AC GC) → IsSignedIn types a answers signed
        → IsSomeAnd (login_named_by a.pending (pairs a.query)) (λ l. is_some signed.user_info ≡ is_some l.user_info)
    info_there signed is =
        some_and _ is.held.login (λ l. is_some signed.user_info ≡ is_some l.user_info) is.holds.reads.answered.asked.has_code.names.login_named
        (demanded_by is.held signed.user_info is.info)

  -- ---- by what a callback left

  module _ {E : Type 0} (old new : Known) (result : Result (SeenSignedIn AC GC) (LoginError E)) (ran : Ran types a old new result) where
    abbrev HasCause : Result (SeenSignedIn AC GC) (LoginError E) → Type 0
    HasCause r = IfErr r (λ e. Unless (wants_memory e) (Cause types a ran.exchanged.answers (seen e)))

    caused : (e : LoginError E) → result ≡ Err e → Unless (wants_memory e) (Cause types a ran.exchanged.answers (seen e))
    caused e is = subst HasCause is ran.cause

    pub too_long_of : result ≡ Err (login.TooLong place.Callback) → is_over_long a.query ≡ true
    too_long_of is = caused (login.TooLong place.Callback) is

    pub state_of : result ≡ Err login.State → login_named_by a.pending (pairs a.query) ≡ None
    state_of is = (caused login.State is).none_named

    pub no_state_of : is_over_long a.query ≡ false → login_named_by a.pending (pairs a.query) ≡ None → OrMemory login_errors result (result ≡ Err login.State)
    no_state_of short none = given_state result (ran.refused login.State (record { short_query = short; none_named = none }))

    pub provider_of : (code : CoreAuthErrorResponseType) → result ≡ Err (login.Provider code) → HasError a code
    provider_of code is = caused (login.Provider code) is

    pub error_given : (code : CoreAuthErrorResponseType) → HasError a code → Gives login_errors result (Err (login.Provider code))
    error_given code cause = ran.refused (login.Provider code) cause

    pub callback_of : result ≡ Err login.Callback → LacksCode a
    callback_of is = caused login.Callback is

    pub no_code_given : LacksCode a → Gives login_errors result (Err login.Callback)
    no_code_given cause = ran.refused login.Callback cause

    pub uri_of : result ≡ Err (login.Token (token_error.Other other.Uri)) → HasNoRequest a
    uri_of is = caused (login.Token (token_error.Other other.Uri)) is

    pub no_address_given : HasNoRequest a → Gives login_errors result (Err (login.Token (token_error.Other other.Uri)))
    no_address_given cause = ran.refused (login.Token (token_error.Other other.Uri)) cause

    -- ---- of an Ok

    signs : {P : SeenSignedIn AC GC → Type 0} → ((signed : SeenSignedIn AC GC) → IsSignedIn types a ran.exchanged.answers signed → P signed)
        → (r : Result (SeenSignedIn AC GC) (LoginError E)) → IfOk r (IsSignedIn types a ran.exchanged.answers) → IfOk r P
    signs f (Ok signed) is = f signed is
    signs f (Err e) is = tt

    signs_on : {P : Type 0} → ((signed : SeenSignedIn AC GC) → IsSignedIn types a ran.exchanged.answers signed → P)
        → (r : Result (SeenSignedIn AC GC) (LoginError E)) → IfOk r (IsSignedIn types a ran.exchanged.answers) → OnOk r P
    signs_on f (Ok signed) is = f signed is
    signs_on f (Err e) is = tt

    pub ok_named : OnOk result (IsSome (login_named_by a.pending (pairs a.query)))
    ok_named = signs_on (named ran.exchanged.answers) result ran.signed_in

    pub ok_accepted : IfOk result (λ signed. IsSomeAnd (login_named_by a.pending (pairs a.query)) (λ l. IsAcceptedBy types a.client l.nonce a.now signed.id_token))
    ok_accepted = signs (accepted ran.exchanged.answers) result ran.signed_in

    pub ok_hash : IfOk result (λ signed. HasOwnHash types a.client signed.id_token signed.access_token)
    ok_hash = signs (hash ran.exchanged.answers) result ran.signed_in

    pub ok_user_info : IfOk result (λ signed. IsSomeAnd (login_named_by a.pending (pairs a.query)) (λ l. is_some signed.user_info ≡ is_some l.user_info))
    ok_user_info = signs (info_there ran.exchanged.answers) result ran.signed_in

    pub ok_subject : IfOk result (λ signed. IfSome signed.user_info (λ x. x.standard_claims.subject ≡ subject_of signed.id_token))
    ok_subject = signs (subject ran.exchanged.answers) result ran.signed_in

    -- ---- no refusal has want of memory inside

    module _ (law : NeverWants types) where
      token_hides : (e : RequestTokenError E (SeenError CoreErrorResponseType)) → Cause types a ran.exchanged.answers (seen (login.Token e)) → hides_memory (login.Token e) ≡ false
      token_hides (token_error.ServerResponse error) c = refl
      token_hides (token_error.Request cause) c = refl
      token_hides (token_error.Parse refusal body) c = refl
      token_hides (token_error.Other cause) c = refl
      token_hides (token_error.TooLong body) c = absurd c
      token_hides token_error.Memory c = absurd c

      info_hides : (e : UserInfoError E) → UserInfoCause types a ran.exchanged.answers (seen_info e) → hides_memory (login.UserInfo e) ≡ false
      info_hides (info_error.ClaimsVerification kind) c = caused_wanted c.ask (drop 1 ran.exchanged.answers) kind c.cause
      info_hides (info_error.Parse refusal) c = refl
      info_hides (info_error.Request cause) c = refl
      info_hides (info_error.Response status body cause) c = refl
      info_hides (info_error.Other cause) c = refl
      info_hides (info_error.TooLong body) c = absurd c
      info_hides info_error.Memory c = absurd c

      signing_hides : (e : SigningError) (text : List ℕ) → e ≡ signing.UnsupportedAlg text → hides_memory {E = E} (login.Signing e) ≡ false
      signing_hides signing.CryptoError text is = refl
      signing_hides (signing.UnsupportedAlg name) text is = refl
      signing_hides (signing.Other name) text is = refl
      signing_hides signing.Memory text is = cc

      hides : (e : LoginError E) → Unless (wants_memory e) (Cause types a ran.exchanged.answers (seen e)) → hides_memory e ≡ false
      hides (login.TooLong at) c = refl
      hides login.State c = refl
      hides (login.Provider code) c = refl
      hides login.Callback c = refl
      hides (login.Token e) c = token_hides e c
      hides login.NoIdToken c = refl
      hides (login.Claims kind) c =
          never_wanted kind
          (λ own. never_memory types a.client c.held.login.nonce a.now c.held.token (c.check_failed ∙ ap Some own))
          (λ inside. never_wanting types law a.client c.held.login.nonce a.now c.held.token (c.check_failed ∙ ap Some inside))
      hides (login.Signing refusal) c = signing_hides refusal _ c.names_algorithm
      hides login.TokenHash c = refl
      hides (login.UserInfo e) c = info_hides e c
      hides (login.Memory spent) c = refl

      by_cause : (r : Result (SeenSignedIn AC GC) (LoginError E)) → HasCause r → IfErr r (λ e. hides_memory e ≡ false)
      by_cause (Ok signed) c = tt
      by_cause (Err e) c = hides e c

      pub no_inner_memory : IfErr result (λ e. hides_memory e ≡ false)
      no_inner_memory = by_cause result ran.cause
