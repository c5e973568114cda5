-- What the table of `front_channel` says of its result, clause by clause.
use Rattle.std.proofs.Common.{◌≡◌, ℕ, List, [], ◌∷◌, false, Option, Some, Result, Ok, Err, refl, sym, ap, subst, ◌∙◌}
use Rattle.std.specs.Prelude.{true, IfOk, IfErr, IfSome, IsSome, OnOk}
use Rattle.oidc_pairs.specs.Pairs.{pairs, only_of}
use Rattle.oidc_types.specs.declared.signing_error.SigningError.{SigningError}
use Rattle.oidc_types.specs.declared.signing_error.SigningError.TheVariants as signing
use Rattle.oidc_oauth2.specs.Replies.{Unless, Gives}
use Rattle.oidc_oauth2.proofs.Runs.{unless_map}
use Rattle.oidc_login.specs.Types.{SiteTypes}
use Rattle.oidc_login.specs.BeforeRequest.{state_in}
use Rattle.oidc_login.specs.Token.{SeenIdToken, IsAcceptedBy, claimed_hash, claimed_code_hash, HasOwnClaim, HasOwnHash, HasOwnCodeHash}
use Rattle.oidc_login.specs.FrontChannel.{FrontAttempt, SeenFrontAnswer, front, front_errors, is_memory, holds_memory}
use Rattle.oidc_login.specs.FrontCauses.{FitsValues, IsFrontAnswer, FrontCause}
use Rattle.oidc_login.specs.declared.front.FrontError.{FrontError}
use Rattle.oidc_login.specs.declared.front.FrontError.TheVariants as refusal
use Rattle.oidc_login.proofs.Walks.{Walk}
use Rattle.oidc_login.proofs.NoMemory.{NeverWants, never_wanted, never_wanting, never_memory}
use Rattle.oidc_login.proofs.TokenHash.{fits_own}
use Rattle.oidc_login.proofs.FrontRows.{front-walk}
use Rattle.oidc_login.proofs.FrontBack.{refused, answers}

signing_holds : (e : SigningError) (text : List ℕ) → e ≡ signing.UnsupportedAlg text → holds_memory (refusal.Signing e) ≡ false
signing_holds signing.CryptoError text is = refl
signing_holds (signing.UnsupportedAlg name) text is = refl
signing_holds (signing.Other name) text is = refl
signing_holds signing.Memory text is = cc

module _ {AC GC Key Use : Type 0} (types : SiteTypes AC GC Key Use) (a : FrontAttempt Key) where
  -- ---- an Ok

  -- the one value that fits, where there is one
  one_fits : (claimed : Option (List ℕ)) (x : SeenIdToken AC GC) (accepted : IsAcceptedBy types a.client a.nonce a.now x) (found : List (List ℕ)) → FitsValues types claimed accepted.key accepted.alg found
      → IfSome (only_of found) (HasOwnClaim types claimed a.client x)
  one_fits claimed x accepted [] fits = tt
  one_fits claimed x accepted (text ∷ []) fits = fits_own types a.client a.nonce a.now x accepted claimed text fits
  one_fits claimed x accepted (text ∷ next ∷ others) fits = tt

  token_fits : (answer : SeenFrontAnswer AC GC) → IsFrontAnswer types a answer → IfSome answer.access_token (HasOwnHash types a.client answer.id_token)
  token_fits answer is =
      subst (λ token. IfSome token (HasOwnHash types a.client answer.id_token)) (sym is.own_access_token)
      (one_fits (claimed_hash answer.id_token) answer.id_token is.accepted _ is.fits_token)

  code_fits : (answer : SeenFrontAnswer AC GC) → IsFrontAnswer types a answer → IfSome answer.code (HasOwnCodeHash types a.client answer.id_token)
  code_fits answer is =
      subst (λ code. IfSome code (HasOwnCodeHash types a.client answer.id_token)) (sym is.own_code)
      (one_fits (claimed_code_hash answer.id_token) answer.id_token is.accepted _ is.fits_code)

  -- ---- a refusal

  holds : NeverWants types → (e : FrontError) → Unless (is_memory e) (FrontCause types a e) → holds_memory e ≡ false
  holds law refusal.TooLong c = refl
  holds law refusal.State c = refl
  holds law (refusal.Provider code) c = refl
  holds law refusal.NoIdToken c = refl
  holds law (refusal.Parse why) c = refl
  holds law (refusal.Claims kind) c =
      never_wanted kind
      (λ own. never_memory types a.client a.nonce a.now c.token (c.check_failed ∙ ap Some own))
      (λ inside. never_wanting types law a.client a.nonce a.now c.token (c.check_failed ∙ ap Some inside))
  holds law (refusal.Signing why) c = signing_holds why _ c.names_algorithm
  holds law refusal.TokenHash c = refl
  holds law refusal.CodeHash c = refl
  holds law refusal.Memory c = refl

  -- ---- of a result that the table gives

  module _ (result : Result (SeenFrontAnswer AC GC) FrontError) (gives : Gives front_errors result (front types a)) where
    by_err : (r : Result (SeenFrontAnswer AC GC) FrontError) → Gives front_errors r (front types a) → IfErr r (λ e. Unless (is_memory e) (FrontCause types a e))
    by_err (Ok answer) given = tt
    by_err (Err e) given = unless_map (is_memory e) (λ is. subst (Walk (IsFrontAnswer types a) (FrontCause types a)) is (front-walk types a)) given

    by_ok : (r : Result (SeenFrontAnswer AC GC) FrontError) → Gives front_errors r (front types a) → IfOk r (IsFrontAnswer types a)
    by_ok (Ok answer) given = subst (Walk (IsFrontAnswer types a) (FrontCause types a)) given (front-walk types a)
    by_ok (Err e) given = tt

    pub caused : IfErr result (λ e. Unless (is_memory e) (FrontCause types a e))
    caused = by_err result gives

    pub refused_given : (e : FrontError) → FrontCause types a e → Gives front_errors result (Err e)
    refused_given e cause = subst (Gives front_errors result) (refused types a e cause) gives

    pub answered : IfOk result (IsFrontAnswer types a)
    answered = by_ok result gives

    pub answers_given : (answer : SeenFrontAnswer AC GC) → IsFrontAnswer types a answer → Gives front_errors result (Ok answer)
    answers_given answer is = subst (Gives front_errors result) (answers types a answer is) gives

    -- what an Ok says
    says : {P : SeenFrontAnswer AC GC → Type 0} → ((answer : SeenFrontAnswer AC GC) → IsFrontAnswer types a answer → P answer)
        → (r : Result (SeenFrontAnswer AC GC) FrontError) → IfOk r (IsFrontAnswer types a) → IfOk r P
    says f (Ok answer) is = f answer is
    says f (Err e) is = tt

    pub ok_state : OnOk result (state_in (pairs a.query) ≡ Some a.state)
    ok_state = says {P = λ answer. state_in (pairs a.query) ≡ Some a.state} (λ answer is. is.own_state) result answered

    pub ok_accepted : IfOk result (λ answer. IsAcceptedBy types a.client a.nonce a.now answer.id_token)
    ok_accepted = says {P = λ answer. IsAcceptedBy types a.client a.nonce a.now answer.id_token} (λ answer is. is.accepted) result answered

    pub ok_token_hash : IfOk result (λ answer. IfSome answer.access_token (HasOwnHash types a.client answer.id_token))
    ok_token_hash = says {P = λ answer. IfSome answer.access_token (HasOwnHash types a.client answer.id_token)} token_fits result answered

    pub ok_code_hash : IfOk result (λ answer. IfSome answer.code (HasOwnCodeHash types a.client answer.id_token))
    ok_code_hash = says {P = λ answer. IfSome answer.code (HasOwnCodeHash types a.client answer.id_token)} code_fits result answered

    pub ok_demanded : a.client.code_hash_required ≡ true → IfOk result (λ answer. IsSome answer.code → IsSome (claimed_code_hash answer.id_token))
    ok_demanded wanted =
        says {P = λ answer. IsSome answer.code → IsSome (claimed_code_hash answer.id_token)} (λ answer is. is.has_code_hash wanted) result answered

    hides_by : NeverWants types → (r : Result (SeenFrontAnswer AC GC) FrontError) → IfErr r (λ e. Unless (is_memory e) (FrontCause types a e)) → IfErr r (λ e. holds_memory e ≡ false)
    hides_by law (Ok answer) c = tt
    hides_by law (Err e) c = holds law e c

    pub no_inner_memory : NeverWants types → IfErr result (λ e. holds_memory e ≡ false)
    no_inner_memory law = hides_by law result caused
