-- What a call answers and leaves, clause by clause.
use Rattle.std.proofs.Common.{◌≡◌, ℕ, ℤ, List, false, Result, Ok, Err, refl, sym, ap, subst, ◌∙◌}
use Rattle.std.specs.Prelude.{IfOk, IfErr, OnOk}
use Rattle.oidc_keys.specs.declared.refusals.SignatureVerificationError.{SignatureVerificationError}
use Rattle.oidc_keys.specs.declared.refusals.SignatureVerificationError.TheVariants as signature
use Rattle.oidc_oauth2.specs.Replies.{Unless, Gives}
use Rattle.oidc_oauth2.proofs.Runs.{unless_map}
use Rattle.oidc_login.proofs.Walks.{Walk}
use Rattle.oidc_session.specs.Sessions.{Kept, SeenLogout, count_of, ends_session, logged_out}
use Rattle.oidc_session.specs.LogoutTokens.{LogoutKeys, SeenLogoutVerifier, SeenLogoutToken, accepted_logout, logout_errors, is_memory, holds_memory}
use Rattle.oidc_session.specs.LogoutCauses.{LogoutCause, IsAcceptedLogout}
use Rattle.oidc_session.specs.Events.{count_named, left_by}
use Rattle.oidc_session.specs.declared.errors.LogoutError.{LogoutError}
use Rattle.oidc_session.specs.declared.errors.LogoutError.TheVariants as refusal
use Rattle.oidc_session.proofs.Rows.{walk, refused, accepts, accepted_of}

-- no verdict of a key is want of memory
abbrev pub NeverWants : {Key Algorithm : Type 0} → LogoutKeys Key Algorithm → Type 0
NeverWants {Key} {Algorithm} keys = (key : Key) (alg : Algorithm) (message mac : List ℕ) → keys.verdict key alg message mac ≡ Err signature.Memory → ⊥

-- ---- what an accepted token gives, and what a refused one

module _ (kept : Kept) (meant : Result SeenLogout LogoutError) where
  pub counted_by : (logout : SeenLogout) (count : ℕ) → meant ≡ Ok logout → count ≡ count_of (ends_session logout) kept.sessions → count_named kept meant ≡ Ok count
  counted_by logout count is e = ap (count_named kept) is ∙ ap Ok (sym e)

  pub left_accepted : (logout : SeenLogout) (new : Kept) → meant ≡ Ok logout → new ≡ logged_out kept logout → new ≡ left_by kept meant
  left_accepted logout new is e = e ∙ sym (ap (left_by kept) is)

  pub refused_by : (e : LogoutError) → Unless (is_memory e) (meant ≡ Err e) → Unless (is_memory e) (count_named kept meant ≡ Err e)
  refused_by e known = unless_map (is_memory e) (λ is. ap (count_named kept) is) known

-- ---- each clause

module _ {Key Algorithm : Type 0} (keys : LogoutKeys Key Algorithm) (v : SeenLogoutVerifier Key Algorithm) (kept : Kept) (now : ℤ) (text : List ℕ) where
  abbrev meant : Result SeenLogout LogoutError
  meant = accepted_logout keys v kept.token_ids now text

  abbrev Why : LogoutError → Type 0
  Why = LogoutCause keys v kept.token_ids now text

  -- an answer of the table, as a number
  counted : (reply : Result SeenLogout LogoutError) (e : LogoutError) → count_named kept reply ≡ Err e → reply ≡ Err e
  counted (Ok logout) e h = absurd cc
  counted (Err why) e h = cc

  same_count : (reply : Result ℕ LogoutError) (a b : ℕ) → reply ≡ Ok a → reply ≡ Ok b → a ≡ b
  same_count reply a b h k = cc

  counted_ok : (reply : Result SeenLogout LogoutError) (n : ℕ) → count_named kept reply ≡ Ok n → (logout : SeenLogout) × (reply ≡ Ok logout)
  counted_ok (Ok logout) n h = (logout, refl)
  counted_ok (Err why) n h = absurd cc

  module _ (result : Result ℕ LogoutError) (gives : Gives logout_errors result (count_named kept meant)) where
    by_err : (r : Result ℕ LogoutError) → Gives logout_errors r (count_named kept meant) → IfErr r (λ e. Unless (is_memory e) (Why e))
    by_err (Ok n) given = tt
    by_err (Err e) given = unless_map (is_memory e) (λ is. subst (Walk (IsAcceptedLogout keys v kept.token_ids now text) Why) (counted meant e is) (walk keys v kept.token_ids now text)) given

    pub caused : IfErr result (λ e. Unless (is_memory e) (Why e))
    caused = by_err result gives

    pub refused_given : (e : LogoutError) → Why e → Gives logout_errors result (Err e)
    refused_given e why = subst (λ reply. Gives logout_errors result (count_named kept reply)) (refused keys v kept.token_ids now text e why) gives

    -- what an Ok rests on, counts, and leaves
    abbrev pub Accepted : Kept → ℕ → Type 0
    Accepted new count =
        (logout : SeenLogout) × IsAcceptedLogout keys v kept.token_ids now text logout
        × (count ≡ count_of (ends_session logout) kept.sessions) × (new ≡ logged_out kept logout)

    accepted_as : (new : Kept) (n : ℕ) (logout : SeenLogout) → meant ≡ Ok logout → count_named kept meant ≡ Ok n → new ≡ left_by kept meant → Accepted new n
    accepted_as new n logout is given left = (
      logout,
      accepted_of keys v kept.token_ids now text logout is,
      same_count (count_named kept meant) n (count_of (ends_session logout) kept.sessions) given (ap (count_named kept) is),
      left ∙ ap (left_by kept) is,
    )

    by_ok : (new : Kept) (r : Result ℕ LogoutError) → Gives logout_errors r (count_named kept meant) → OnOk r (new ≡ left_by kept meant) → IfOk r (Accepted new)
    by_ok new (Ok n) given left =
        let found = counted_ok meant n given in
        accepted_as new n found.0 found.1 given left
    by_ok new (Err e) given left = tt

    pub ok_accepted : (new : Kept) → OnOk result (new ≡ left_by kept meant) → IfOk result (Accepted new)
    ok_accepted new left = by_ok new result gives left

    pub accepts_given : (logout : SeenLogout) → IsAcceptedLogout keys v kept.token_ids now text logout → Gives logout_errors result (Ok (count_of (ends_session logout) kept.sessions))
    accepts_given logout is = subst (λ reply. Gives logout_errors result (count_named kept reply)) (accepts keys v kept.token_ids now text logout is) gives

    fault_holds : NeverWants keys → (fault : SignatureVerificationError) (token : SeenLogoutToken Algorithm) → keys.verdict v.key v.alg token.message token.signature ≡ Err fault
        → holds_memory (refusal.Signature fault) ≡ false
    fault_holds law signature.AmbiguousKeyId token h = refl
    fault_holds law signature.CryptoError token h = refl
    fault_holds law signature.DisallowedAlg token h = refl
    fault_holds law signature.InvalidKey token h = refl
    fault_holds law signature.NoMatchingKey token h = refl
    fault_holds law signature.NoSignature token h = refl
    fault_holds law signature.UnsupportedAlg token h = refl
    fault_holds law signature.Memory token h = absurd (law v.key v.alg token.message token.signature h)

    holds : NeverWants keys → (e : LogoutError) → Unless (is_memory e) (Why e) → holds_memory e ≡ false
    holds law (refusal.Parse why) c = refl
    holds law refusal.Unsupported c = refl
    holds law refusal.InvalidIssuer c = refl
    holds law refusal.InvalidAudience c = refl
    holds law refusal.WrongAlgorithm c = refl
    holds law (refusal.Signature fault) c = fault_holds law fault c.token c.faulty
    holds law refusal.Expired c = refl
    holds law refusal.Events c = refl
    holds law refusal.NoName c = refl
    holds law refusal.Nonce c = refl
    holds law refusal.Replayed c = refl
    holds law refusal.Memory c = refl

    hides_by : NeverWants keys → (r : Result ℕ LogoutError) → IfErr r (λ e. Unless (is_memory e) (Why e)) → IfErr r (λ e. holds_memory e ≡ false)
    hides_by law (Ok n) c = tt
    hides_by law (Err e) c = holds law e c

    pub no_inner_memory : NeverWants keys → IfErr result (λ e. holds_memory e ≡ false)
    no_inner_memory law = hides_by law result caused
