-- What the functions of `front_channel` answer, one after another, is what its table says.
use Rattle.std.proofs.Common.{◌≡◌, ℕ, ℤ, List, [], ◌∷◌, Bool, true, false, Option, None, Some, Result, Ok, Err, refl, sym, ap, subst, ◌∙◌}
use Rattle.std.specs.Prelude.{not, ◌||◌}
use Rattle.oidc_pairs.specs.Pairs.{pairs, first_of, only_of}
use Rattle.oidc_types.specs.declared.signing_error.SigningError.{SigningError}
use Rattle.oidc_types.specs.declared.signing_error.SigningError.TheVariants as signing
use Rattle.oidc_oauth2.specs.Replies.{◌>>=◌, ◌>>◌, ◌when◌, ◌for◌, ◌or◌, ◌or_as◌, Gives}
use Rattle.oidc_oauth2.specs.TokenAnswers.{is_over_long}
use Rattle.oidc_oauth2.proofs.Runs.{unless_map}
use Rattle.oidc_tokens.specs.declared.verification.refusals.ClaimsVerificationError.{ClaimsVerificationError}
use Rattle.oidc_tokens.specs.declared.verification.refusals.ClaimsVerificationError.TheVariants as check
use Rattle.oidc_tokens.specs.Verification.{first_failure, Judges}
use Rattle.oidc_login.specs.Types.{SeenLoginClient, SiteTypes}
use Rattle.oidc_login.specs.BeforeRequest.{state_in, error_in}
use Rattle.oidc_login.specs.Token.{SeenIdToken, id_token_of, KeyVerifier, verifier_of, is_sent, failure_for, claimed_hash, claimed_code_hash, refusal_beside, is_another_beside, lacks_claim}
use Rattle.oidc_login.specs.Steps.{RefusesAs}
use Rattle.oidc_login.specs.FrontChannel.{FrontReply, FrontAttempt, SeenFrontAnswer, front_answer, front, front_errors, is_memory, id_token_in, access_tokens_in, codes_in, is_several, token_hash_refusal, code_hash_refusal, has_other_token, has_other_code}
use Rattle.oidc_login.specs.FrontSteps.{of_signing, of_check, checked_state, checked_fits, token_in, checked_hashes, checked_token, answer_with, answer_in}
use Rattle.oidc_login.specs.declared.front.FrontError.{FrontError}
use Rattle.oidc_login.specs.declared.front.FrontError.TheVariants as refusal
use Rattle.oidc_login.proofs.Parts.{then_row}

-- ---- one value, or several

-- where there aren't several, the first is the only one
pub one_alone : (found : List (List ℕ)) → is_several found ≡ false → only_of found ≡ first_of found
one_alone [] few = refl
one_alone (value ∷ []) few = refl
one_alone (value ∷ next ∷ others) few = cc

-- ---- one step, and what follows it

module _ {A : Type 0} where
  after_row : (result : Result A FrontError) (m : FrontReply (Unit {0})) (next : FrontReply A) → m ≡ Ok tt → Gives front_errors result next → Gives front_errors result (m >> next)
  after_row result m next is gives = subst (λ x. Gives front_errors result (x >> next)) (sym is) gives

  pub row_stops : (e : FrontError) (m : FrontReply (Unit {0})) (next : FrontReply A) → Gives front_errors {A = Unit {0}} (Err e) m → Gives front_errors {A = A} (Err e) (m >> next)
  row_stops e m next gives = unless_map (is_memory e) (λ is. ap (λ x. x >> next) is) gives

  pub after_value : {B : Type 0} (result : Result A FrontError) (m : FrontReply B) (x : B) (next : B → FrontReply A) → m ≡ Ok x → Gives front_errors result (next x)
      → Gives front_errors result (m >>= next)
  after_value result m x next is gives = subst (λ y. Gives front_errors result (y >>= next)) (sym is) gives

  pub value_stops : {B : Type 0} (e : FrontError) (m : FrontReply B) (next : B → FrontReply A) → Gives front_errors {A = B} (Err e) m → Gives front_errors {A = A} (Err e) (m >>= next)
  value_stops e m next gives = unless_map (is_memory e) (λ is. ap (λ x. x >>= next) is) gives

-- ---- the rows on hashes

-- a refusal of a hash that is meant is the refusal, or there was no memory
refused_hash : (meant : Option SigningError) (rows : FrontReply (Unit {0})) → ((e : SigningError) → meant ≡ Some e → rows ≡ Err (refusal.Signing e)) → (e : SigningError) → RefusesAs meant e
    → Gives front_errors {A = Unit {0}} (Err (of_signing e)) rows
refused_hash meant rows row signing.CryptoError is = row signing.CryptoError is
refused_hash meant rows row (signing.UnsupportedAlg name) is = row (signing.UnsupportedAlg name) is
refused_hash meant rows row (signing.Other name) is = row (signing.Other name) is
refused_hash meant rows row signing.Memory is = tt

module _ {AC GC Key Use : Type 0} (types : SiteTypes AC GC Key Use) (v : KeyVerifier Key) (demanded : Bool) (token : SeenIdToken AC GC) (query : List (List ℕ × List ℕ)) where
  abbrev rows : Option SigningError → Option SigningError → Bool → Bool → FrontReply (Unit {0})
  rows of_token of_code other_token other_code =
      (refusal.Signing for of_token) >> ((refusal.Signing for of_code) >> ((refusal.TokenHash when other_token) >> (refusal.CodeHash when other_code)))

  abbrev own : FrontReply (Unit {0})
  own = checked_hashes types v demanded token query

  -- the first row, where the access token has no hash
  token_row : (e : SigningError) → token_hash_refusal types v token query ≡ Some e → own ≡ Err (refusal.Signing e)
  unfolding checked_hashes
  token_row e is = ap (λ r. rows r (code_hash_refusal types v token query) (has_other_token types v token query) (has_other_code types v token query demanded)) is

  pub token_refused : (text : Option (List ℕ)) → text ≡ first_of (access_tokens_in query) → (e : SigningError) → RefusesAs (refusal_beside types v token (claimed_hash token) text) e
      → Gives front_errors {A = Unit {0}} (Err (of_signing e)) (checked_hashes types v demanded token query)
  token_refused text first e is =
      refused_hash (token_hash_refusal types v token query) own token_row e (subst (λ t. RefusesAs (refusal_beside types v token (claimed_hash token) t) e) first is)

  -- the second, where the code has none
  code_row : token_hash_refusal types v token query ≡ None → (e : SigningError) → code_hash_refusal types v token query ≡ Some e → own ≡ Err (refusal.Signing e)
  unfolding checked_hashes
  code_row none e is =
      ap (λ r. rows r (code_hash_refusal types v token query) (has_other_token types v token query) (has_other_code types v token query demanded)) none
      ∙ ap (λ r. rows None r (has_other_token types v token query) (has_other_code types v token query demanded)) is

  pub code_refused : (token_text : Option (List ℕ)) → token_text ≡ first_of (access_tokens_in query) → refusal_beside types v token (claimed_hash token) token_text ≡ None
      → (text : Option (List ℕ)) → text ≡ first_of (codes_in query) → (e : SigningError) → RefusesAs (refusal_beside types v token (claimed_code_hash token) text) e
      → Gives front_errors {A = Unit {0}} (Err (of_signing e)) (checked_hashes types v demanded token query)
  code_refused token_text first_token none text first e is =
      let no_refusal : token_hash_refusal types v token query ≡ None = subst (λ t. refusal_beside types v token (claimed_hash token) t ≡ None) first_token none in
      refused_hash (code_hash_refusal types v token query) own (code_row no_refusal) e (subst (λ t. RefusesAs (refusal_beside types v token (claimed_code_hash token) t) e) first is)

  -- a code whose hash isn't the one that is claimed, or of which none is, though it is demanded
  abbrev pub misfits_code : Option (List ℕ) → Bool
  misfits_code text = is_another_beside types v token (claimed_code_hash token) text || lacks_claim demanded (claimed_code_hash token) text

  -- the others, by whether they fit
  fitting : (of_token of_code : Bool) → token_hash_refusal types v token query ≡ None → code_hash_refusal types v token query ≡ None
      → is_another_beside types v token (claimed_hash token) (first_of (access_tokens_in query)) ≡ not of_token
      → misfits_code (first_of (codes_in query)) ≡ not of_code
      → own ≡ checked_fits query of_token of_code
  unfolding checked_hashes
  fitting of_token of_code no_token no_code token_other code_other =
      λ i. rows (no_token i) (no_code i) (is_several (access_tokens_in query) || token_other i) (is_several (codes_in query) || code_other i)

  -- what an access token and a code are found to be, where both have hashes
  pub record AreJudged (token_text code_text : Option (List ℕ)) (of_token of_code : Bool) : Type 0 where
    pub first_token : token_text ≡ first_of (access_tokens_in query)
    pub first_code : code_text ≡ first_of (codes_in query)
    pub token_hash : refusal_beside types v token (claimed_hash token) token_text ≡ None
    pub code_hash : refusal_beside types v token (claimed_code_hash token) code_text ≡ None
    pub token_other : is_another_beside types v token (claimed_hash token) token_text ≡ not of_token
    pub code_other : misfits_code code_text ≡ not of_code

  pub fits_given : (token_text code_text : Option (List ℕ)) (of_token of_code : Bool) → AreJudged token_text code_text of_token of_code → (result : Result (Unit {0}) FrontError)
      → Gives front_errors result (checked_fits query of_token of_code) → Gives front_errors result (checked_hashes types v demanded token query)
  fits_given token_text code_text of_token of_code x result gives =
      subst (Gives front_errors result)
      (sym (fitting of_token of_code
      (subst (λ t. refusal_beside types v token (claimed_hash token) t ≡ None) x.first_token x.token_hash)
      (subst (λ t. refusal_beside types v token (claimed_code_hash token) t ≡ None) x.first_code x.code_hash)
      (subst (λ t. is_another_beside types v token (claimed_hash token) t ≡ not of_token) x.first_token x.token_other)
      (subst (λ t. misfits_code t ≡ not of_code) x.first_code x.code_other)))
      gives

-- ---- the checks of an ID token

module _ {AC GC Key Use : Type 0} (types : SiteTypes AC GC Key Use) (client : SeenLoginClient Key) (nonce : List ℕ) (now : ℤ) (query : List (List ℕ × List ℕ)) (token : SeenIdToken AC GC) where
  abbrev hashes_meant : FrontReply (Unit {0})
  hashes_meant = checked_hashes types (verifier_of types client) client.code_hash_required token query

  checking_by : (failure : Option ClaimsVerificationError) → failure_for types client nonce now token ≡ failure
      → checked_token types client nonce now query token ≡ ((refusal.Claims for failure) >> hashes_meant)
  unfolding checked_token
  checking_by failure is = ap (λ o. (refusal.Claims for o) >> hashes_meant) is

  -- the verifier of the client, by another name
  pub same_failure : (verifier : KeyVerifier Key) → verifier ≡ verifier_of types client
      → first_failure types.keys verifier (is_sent nonce) now token ≡ failure_for types client nonce now token
  same_failure verifier is = ap (λ v. first_failure types.keys v (is_sent nonce) now token) is

  pub passed : (result : Result (Unit {0}) FrontError) (verifier : KeyVerifier Key) → verifier ≡ verifier_of types client
      → first_failure types.keys verifier (is_sent nonce) now token ≡ None → Gives front_errors result (checked_hashes types verifier client.code_hash_required token query)
      → Gives front_errors result (checked_token types client nonce now query token)
  passed result verifier is none gives =
      subst (Gives front_errors result) (sym (checking_by None (sym (same_failure verifier is) ∙ none)))
      (subst (λ v. Gives front_errors result (checked_hashes types v client.code_hash_required token query)) is gives)

  failed : (kind : ClaimsVerificationError) → failure_for types client nonce now token ≡ Some kind → checked_token types client nonce now query token ≡ Err (refusal.Claims kind)
  failed kind is = checking_by (Some kind) is

  -- the first check that fails, or want of memory
  refused_check : (C : Type 0) (e : ClaimsVerificationError) → Judges {C = C} (failure_for types client nonce now token) (Err e)
      → Gives front_errors {A = Unit {0}} (Err (of_check e)) (checked_token types client nonce now query token)
  refused_check C check.Unsupported judged = failed _ judged
  refused_check C check.InvalidIssuer judged = failed _ judged
  refused_check C check.InvalidAudience judged = failed _ judged
  refused_check C (check.SignatureVerification why) judged = failed _ judged
  refused_check C check.Expired judged = failed _ judged
  refused_check C check.InvalidNonce judged = failed _ judged
  refused_check C check.InvalidSubject judged = failed _ judged
  refused_check C check.Memory judged = tt

  pub refused_by : (C : Type 0) (verifier : KeyVerifier Key) → verifier ≡ verifier_of types client → (e : ClaimsVerificationError)
      → Judges {C = C} (first_failure types.keys verifier (is_sent nonce) now token) (Err e)
      → Gives front_errors {A = Unit {0}} (Err (of_check e)) (checked_token types client nonce now query token)
  refused_by C verifier is e judged = refused_check C e (subst (λ f. Judges {C = C} f (Err e)) (same_failure verifier is) judged)

  -- an ID token that passes, with what stands beside it
  pub answered : (answer : SeenFrontAnswer AC GC) → answer.id_token ≡ token
      → answer.access_token ≡ first_of (access_tokens_in query) → only_of (access_tokens_in query) ≡ first_of (access_tokens_in query)
      → answer.code ≡ first_of (codes_in query) → only_of (codes_in query) ≡ first_of (codes_in query)
      → checked_token types client nonce now query token ≡ Ok tt → answer_with types client nonce now query token ≡ Ok answer
  answered answer own first_token one_token first_code one_code passes =
      let same : front_answer token query ≡ answer =
      λ i. record { id_token = sym own i; access_token = (one_token ∙ sym first_token) i; code = (one_code ∙ sym first_code) i } in
      ap (λ m. m >> Ok (front_answer token query)) passes ∙ ap Ok same

-- ---- the whole

-- the rows on an ID token, and then the answer
by_rows : {A : Type 0} (failure : Option ClaimsVerificationError) (of_token of_code : Option SigningError) (other_token other_code : Bool) (answer : FrontReply A)
    → ((refusal.Claims for failure) >> ((refusal.Signing for of_token) >> ((refusal.Signing for of_code) >> ((refusal.TokenHash when other_token) >> ((refusal.CodeHash when other_code) >> answer)))))
    ≡ (((refusal.Claims for failure) >> ((refusal.Signing for of_token) >> ((refusal.Signing for of_code) >> ((refusal.TokenHash when other_token) >> (refusal.CodeHash when other_code))))) >> answer)
by_rows (Some kind) of_token of_code other_token other_code answer = refl
by_rows None (Some e) of_code other_token other_code answer = refl
by_rows None None (Some e) other_token other_code answer = refl
by_rows None None None true other_code answer = refl
by_rows None None None false true answer = refl
by_rows None None None false false answer = refl

by_text : {A B C : Type 0} (o : Option A) (e : FrontError) (f : A → FrontReply B) (g : B → FrontReply C) → ((o or e) >>= λ text. (f text >>= g)) ≡ (((o or e) >>= f) >>= g)
by_text None e f g = refl
by_text (Some text) e f g = refl

module _ {AC GC Key Use : Type 0} (types : SiteTypes AC GC Key Use) (a : FrontAttempt Key) where
  abbrev query : List (List ℕ × List ℕ)
  query = pairs a.query

  abbrev next : SeenIdToken AC GC → FrontReply (SeenFrontAnswer AC GC)
  next token = answer_with types a.client a.nonce a.now query token

  by_token : (token : SeenIdToken AC GC)
      → ((refusal.Claims for failure_for types a.client a.nonce a.now token)
      >> ((refusal.Signing for token_hash_refusal types (verifier_of types a.client) token query)
      >> ((refusal.Signing for code_hash_refusal types (verifier_of types a.client) token query)
      >> ((refusal.TokenHash when has_other_token types (verifier_of types a.client) token query)
      >> ((refusal.CodeHash when has_other_code types (verifier_of types a.client) token query a.client.code_hash_required) >> Ok (front_answer token query))))))
      ≡ next token
  unfolding checked_token checked_hashes
  by_token token =
      by_rows (failure_for types a.client a.nonce a.now token) (token_hash_refusal types (verifier_of types a.client) token query) (code_hash_refusal types (verifier_of types a.client) token query)
      (has_other_token types (verifier_of types a.client) token query) (has_other_code types (verifier_of types a.client) token query a.client.code_hash_required) (Ok (front_answer token query))

  -- the rows behind the size of the query
  abbrev rest : FrontReply (SeenFrontAnswer AC GC)
  rest = checked_state a.state query >> answer_in types a.client a.nonce a.now query

  by_parts : front types a ≡ ((refusal.TooLong when is_over_long a.query) >> rest)
  unfolding front checked_state answer_in token_in
  by_parts =
      let long = refusal.TooLong when is_over_long a.query in
      let other = refusal.State when not (is_sent a.state (state_in query)) in
      let denied = refusal.Provider for error_in query in
      (λ i. long >> (other >> (denied >> ((id_token_in query or refusal.NoIdToken) >>= λ text. (id_token_of types a.client.reading text or_as refusal.Parse) >>= λ token. by_token token i))))
      ∙ ap (λ m. long >> (other >> (denied >> m))) (by_text (id_token_in query) refusal.NoIdToken (λ text. id_token_of types a.client.reading text or_as refusal.Parse) next)
      ∙ ap (λ m. long >> m) (then_row other denied (answer_in types a.client a.nonce a.now query))

  behind_size : is_over_long a.query ≡ false → front types a ≡ rest
  behind_size short = by_parts ∙ ap (λ b. (refusal.TooLong when b) >> rest) short

  pub long_reply : is_over_long a.query ≡ true → front types a ≡ Err refusal.TooLong
  long_reply long = by_parts ∙ ap (λ b. (refusal.TooLong when b) >> rest) long

  -- the pairs of the query, by another name
  module _ (read : List (List ℕ × List ℕ)) (own : read ≡ pairs a.query) (short : is_over_long a.query ≡ false) where
    pub state_stops : (e : FrontError) → Gives front_errors {A = Unit {0}} (Err e) (checked_state a.state read) → Gives front_errors {A = SeenFrontAnswer AC GC} (Err e) (front types a)
    state_stops e gives =
        subst (Gives front_errors {A = SeenFrontAnswer AC GC} (Err e)) (sym (behind_size short))
        (row_stops e (checked_state a.state query) (answer_in types a.client a.nonce a.now query) (subst (λ q. Gives front_errors {A = Unit {0}} (Err e) (checked_state a.state q)) own gives))

    pub after_state : (result : Result (SeenFrontAnswer AC GC) FrontError) → checked_state a.state read ≡ Ok tt → Gives front_errors result (answer_in types a.client a.nonce a.now read) → Gives front_errors result (front types a)
    after_state result passes gives =
        subst (Gives front_errors result) (sym (behind_size short))
        (after_row result (checked_state a.state query) (answer_in types a.client a.nonce a.now query)
        (subst (λ q. checked_state a.state q ≡ Ok tt) own passes) (subst (λ q. Gives front_errors result (answer_in types a.client a.nonce a.now q)) own gives))
