-- Each row of the table of `front_channel` has its cause: one line for each row, in the order of the table.
use Rattle.std.proofs.Common.{◌≡◌, ◌≢◌, ℕ, List, [], ◌∷◌, Bool, true, false, Option, None, Some, Ok, refl, sym, ap, ◌∙◌, inl, inr}
use Rattle.std.specs.Prelude.{◌⊎◌, not, ◌||◌, codes, IsSome}
use Rattle.std.specs.Option.{ok_or}
use Rattle.oidc_pairs.specs.Pairs.{pairs, values, first_of, only_of}
use Rattle.oidc_types.specs.{signing_text}
use Rattle.oidc_types.specs.declared.core_algorithms.CoreJwsSigningAlgorithm.{CoreJwsSigningAlgorithm}
use Rattle.oidc_types.specs.declared.signing_error.SigningError.{SigningError}
use Rattle.oidc_types.specs.declared.signing_error.SigningError.TheVariants.{UnsupportedAlg}
use Rattle.oidc_jwt.specs.Issuing.{encoded}
use Rattle.oidc_jwt.specs.declared.header.JsonWebTokenAlgorithm.TheVariants as algorithm
use Rattle.oidc_oauth2.specs.TokenAnswers.{is_over_long}
use Rattle.oidc_tokens.specs.Hashes.{left_half, hash_text}
use Rattle.oidc_tokens.specs.Signatures.{key_for}
use Rattle.oidc_tokens.proofs.Theorems.{failure_cause}
use Rattle.oidc_login.specs.Types.{SiteTypes}
use Rattle.oidc_login.specs.BeforeRequest.{state_in, error_in}
use Rattle.oidc_login.specs.Token.{SeenIdToken, id_token_of, KeyVerifier, verifier_of, is_sent, failure_for, claimed_hash, claimed_code_hash, FitsClaim, refusal_of_claim, claims_another, refusal_beside, is_another_beside, lacks_claim}
use Rattle.oidc_login.specs.FrontChannel.{FrontAttempt, SeenFrontAnswer, front, id_token_in, access_tokens_in, codes_in, is_several, token_hash_refusal, code_hash_refusal, has_other_token, has_other_code}
use Rattle.oidc_login.specs.FrontCauses.{IsClaimed, LacksClaim, FitsValues, MisfitsValues, HasState, HasNoError, HasIdToken, ReadsIdToken, AcceptsIdToken, HasHashes, FitsToken, IsFrontAnswer, FrontCause}
use Rattle.oidc_login.specs.declared.front.FrontError.{FrontError}
use Rattle.oidc_login.proofs.Walks.{Walk, at_or, at_or_as, at_when, at_for}
use Rattle.oidc_login.proofs.Rows.{no_value}
use Rattle.oidc_login.proofs.Verification.{accepts}
use Rattle.oidc_login.proofs.TokenHash.{beside, differ_back, same_back}

-- ---- the state

same_some : (x y : List ℕ) → ◌≡◌ {A = Option (List ℕ)} (Some x) (Some y) → x ≡ y
same_some x y is = cc

not_sent : (own : List ℕ) (state : Option (List ℕ)) → not (is_sent own state) ≡ true → state ≢ Some own
not_sent own None other = λ is. cc
not_sent own (Some state) other = λ is. differ_back state own other (same_some state own is)

sent : (own : List ℕ) (state : Option (List ℕ)) → not (is_sent own state) ≡ false → state ≡ Some own
sent own None is = cc
sent own (Some state) is = ap Some (same_back state own is)

-- ---- parts of a test that fails, or doesn't

without_false : (b : Bool) → (b || false) ≡ true → b ≡ true
without_false true is = refl
without_false false is = is

first_false : (a b c : Bool) → (a || (b || c)) ≡ false → (a || b) ≡ false
first_false true b c is = is
first_false false true c is = is
first_false false false c is = refl

-- ---- a claim and the values that stand for it, by the hash function of the algorithm under its key, where there is one

abbrev made_by : (List ℕ → List ℕ) → List ℕ → List ℕ
made_by hashes text = encoded (left_half (hashes text))

module _ {AC GC Key Use : Type 0} (types : SiteTypes AC GC Key Use) (v : KeyVerifier Key) (token : SeenIdToken AC GC) (alg : CoreJwsSigningAlgorithm) (key : Key)
    (signed : token.header.alg ≡ algorithm.Signature alg) (chosen : key_for types.keys v token.header.kid alg ≡ Ok key) where
  abbrev hash : Option (List ℕ → List ℕ)
  hash = types.keys.keys.hash_of key alg

  abbrev unsupported : SigningError
  unsupported = UnsupportedAlg (signing_text alg)

  -- what the rows say of a claim, by that hash function
  refusal_by : (claim text : List ℕ) → refusal_beside types v token (Some claim) (Some text) ≡ refusal_of_claim (Some claim) (ok_or (hash_text hash text) unsupported)
  refusal_by claim text = ap (refusal_of_claim (Some claim)) (beside types v token alg key signed chosen text)

  another_by : (claim text : List ℕ) → is_another_beside types v token (Some claim) (Some text) ≡ claims_another (Some claim) (ok_or (hash_text hash text) unsupported)
  another_by claim text = ap (claims_another (Some claim)) (beside types v token alg key signed chosen text)

  unhashed_by : (own : Option (List ℕ → List ℕ)) (claim text : List ℕ) (why : SigningError) → refusal_of_claim (Some claim) (ok_or (hash_text own text) unsupported) ≡ Some why
      → (own ≡ None) × (why ≡ unsupported)
  unhashed_by None claim text why is = let same : why ≡ unsupported = cc in (refl, same)
  unhashed_by (Some hashes) claim text why is = absurd cc

  hashed_by : (own : Option (List ℕ → List ℕ)) (claim text : List ℕ) → refusal_of_claim (Some claim) (ok_or (hash_text own text) unsupported) ≡ None → IsSome own
  hashed_by None claim text is = absurd cc
  hashed_by (Some hashes) claim text is = refl

  -- why the first value has no hash
  pub record IsUnhashed (claim : Option (List ℕ)) (found : List (List ℕ)) (why : SigningError) : Type 0 where
    pub is_claimed : IsClaimed claim found
    pub no_hash : types.keys.keys.hash_of key alg ≡ None
    pub names_algorithm : why ≡ UnsupportedAlg (signing_text alg)

  pub unhashed : (claim : Option (List ℕ)) (found : List (List ℕ)) (why : SigningError) → refusal_beside types v token claim (first_of found) ≡ Some why → IsUnhashed claim found why
  unhashed claim [] why is = absurd cc
  unhashed None (text ∷ others) why is = absurd cc
  unhashed (Some claim) (text ∷ others) why is =
      let both = unhashed_by hash claim text why (sym (refusal_by claim text) ∙ is) in
      record { is_claimed = record { has_claim = refl; has_value = refl }; no_hash = both.0; names_algorithm = both.1 }

  pub hashed : (claim : Option (List ℕ)) (found : List (List ℕ)) → refusal_beside types v token claim (first_of found) ≡ None → IsClaimed claim found → IsSome (types.keys.keys.hash_of key alg)
  hashed claim [] none x = let there : false ≡ true = x.has_value in absurd cc
  hashed None (text ∷ others) none x = let there : false ≡ true = x.has_claim in absurd cc
  hashed (Some claim) (text ∷ others) none x = hashed_by hash claim text (sym (refusal_by claim text) ∙ none)

  -- another hash is claimed, or not
  other_by : (own : Option (List ℕ → List ℕ)) (claim text : List ℕ) → claims_another (Some claim) (ok_or (hash_text own text) unsupported) ≡ true
      → (made : List ℕ) × (hash_text own text ≡ Some made) × (made ≢ claim)
  other_by None claim text is = absurd cc
  other_by (Some hashes) claim text is = (made_by hashes text, refl, differ_back (made_by hashes text) claim is)

  fit_by : (own : Option (List ℕ → List ℕ)) (claim text : List ℕ) → IsSome own → claims_another (Some claim) (ok_or (hash_text own text) unsupported) ≡ false → hash_text own text ≡ Some claim
  fit_by None claim text there is = absurd cc
  fit_by (Some hashes) claim text there is = ap Some (same_back (made_by hashes text) claim is)

  pub misfits : (claim : Option (List ℕ)) (found : List (List ℕ)) → (is_several found || is_another_beside types v token claim (first_of found)) ≡ true → MisfitsValues types claim key alg found
  misfits claim [] is = absurd cc
  misfits None (text ∷ []) is = absurd cc
  misfits (Some claim) (text ∷ []) is =
      let other = other_by hash claim text (sym (another_by claim text) ∙ is) in
      record { claimed = claim; is_claimed = refl; hash = other.0; has_hash = other.1; another = other.2 }
  misfits claim (text ∷ next ∷ others) is = tt

  claim_by : (claim : Option (List ℕ)) (text : List ℕ) → (IsClaimed claim (text ∷ []) → IsSome hash) → is_another_beside types v token claim (Some text) ≡ false → FitsClaim types claim key alg text
  claim_by None text hashes is = λ claimed none. absurd cc
  claim_by (Some claim) text hashes is = λ claimed same.
      fit_by hash claim text (hashes (record { has_claim = refl; has_value = refl })) (sym (another_by claim text) ∙ is) ∙ same

  pub fits : (claim : Option (List ℕ)) (found : List (List ℕ)) → (IsClaimed claim found → IsSome (types.keys.keys.hash_of key alg))
      → (is_several found || is_another_beside types v token claim (first_of found)) ≡ false → FitsValues types claim key alg found
  fits claim [] hashes is = tt
  fits claim (text ∷ []) hashes is = claim_by claim text hashes is
  fits claim (text ∷ next ∷ others) hashes is = absurd cc

  -- ---- the same where a hash may be demanded

  -- one that isn't claimed, though it is demanded, or another, or several values
  pub misfits_demanded : (demanded : Bool) (claim : Option (List ℕ)) (found : List (List ℕ))
      → (is_several found || (is_another_beside types v token claim (first_of found) || lacks_claim demanded claim (first_of found))) ≡ true
      → MisfitsValues types claim key alg found ⊎ LacksClaim demanded claim found
  misfits_demanded demanded claim [] is = absurd cc
  misfits_demanded demanded None (text ∷ []) is = inr (record { is_demanded = is; has_value = refl; no_claim = refl })
  misfits_demanded demanded (Some claim) (text ∷ []) is =
      inl (misfits (Some claim) (text ∷ []) (without_false (is_another_beside types v token (Some claim) (Some text)) is))
  misfits_demanded demanded claim (text ∷ next ∷ others) is = inl tt

  pub fits_demanded : (demanded : Bool) (claim : Option (List ℕ)) (found : List (List ℕ)) → (IsClaimed claim found → IsSome (types.keys.keys.hash_of key alg))
      → (is_several found || (is_another_beside types v token claim (first_of found) || lacks_claim demanded claim (first_of found))) ≡ false → FitsValues types claim key alg found
  fits_demanded demanded claim found hashes is =
      fits claim found hashes (first_false (is_several found) (is_another_beside types v token claim (first_of found)) (lacks_claim demanded claim (first_of found)) is)

  pub has_demanded : (demanded : Bool) (claim : Option (List ℕ)) (found : List (List ℕ))
      → (is_several found || (is_another_beside types v token claim (first_of found) || lacks_claim demanded claim (first_of found))) ≡ false
      → demanded ≡ true → IsSome (only_of found) → IsSome claim
  has_demanded demanded claim [] is wanted there = absurd cc
  has_demanded demanded None (text ∷ []) is wanted there = let no : true ≡ false = sym wanted ∙ is in absurd cc
  has_demanded demanded (Some claim) (text ∷ []) is wanted there = refl
  has_demanded demanded claim (text ∷ next ∷ others) is wanted there = absurd cc

-- ---- the rows

module _ {AC GC Key Use : Type 0} (types : SiteTypes AC GC Key Use) (a : FrontAttempt Key) where
  abbrev Q : FrontError → Type 0
  Q e = FrontCause types a e

  abbrev P : SeenFrontAnswer AC GC → Type 0
  P answer = IsFrontAnswer types a answer

  abbrev query : List (List ℕ × List ℕ)
  query = pairs a.query

  abbrev v : KeyVerifier Key
  v = verifier_of types a.client

  pub front-walk : Walk (IsFrontAnswer types a) (FrontCause types a) (front types a)
  unfolding front
  front-walk =
      at_when P Q (is_over_long a.query) _ _ (λ long. long) (λ short.
      at_when P Q (not (is_sent a.state (state_in query))) _ _
      (λ other. record { short_query = short; other_state = not_sent a.state (state_in query) other }) (λ own.
      let has_state : HasState a = record { short_query = short; own_state = sent a.state (state_in query) own } in
      at_for P Q (error_in query) _ _ (λ code is. record { has_state = has_state; first_error = is }) (λ none.
      let has_no_error : HasNoError a = record { has_state = has_state; no_error = no_value (values a.query (codes "error")) none } in
      at_or P Q (id_token_in query) _ _ (λ not_one. record { has_no_error = has_no_error; not_one_id_token = not_one }) (λ text one.
      let has_id_token : HasIdToken a text = record { has_no_error = has_no_error; one_id_token = one } in
      at_or_as P Q (id_token_of types a.client.reading text) _ _ (λ why is. record { text = text; has_id_token = has_id_token; unread = is }) (λ token read.
      let reads : ReadsIdToken types a token = record { text = text; has_id_token = has_id_token; read = read } in
      at_for P Q (failure_for types a.client a.nonce a.now token) _ _ (λ kind is. record {
        token = token;
        reads = reads;
        check_failed = is;
        cause = failure_cause types.keys v (is_sent a.nonce) a.now token kind is;
      }) (λ none_fails.
      let accepted : AcceptsIdToken types a token = record { reads = reads; accepts = accepts types a.client a.nonce a.now token none_fails } in
      let x = accepted.accepts in
      at_for P Q (token_hash_refusal types v token query) _ _ (λ why is.
      let u = unhashed types v token x.alg x.key x.signed x.chosen (claimed_hash token) (access_tokens_in query) why is in
      record { token = token; accepted = accepted; is_claimed = inl u.is_claimed; no_hash = u.no_hash; names_algorithm = u.names_algorithm }) (λ token_hashed.
      at_for P Q (code_hash_refusal types v token query) _ _ (λ why is.
      let u = unhashed types v token x.alg x.key x.signed x.chosen (claimed_code_hash token) (codes_in query) why is in
      record { token = token; accepted = accepted; is_claimed = inr u.is_claimed; no_hash = u.no_hash; names_algorithm = u.names_algorithm }) (λ code_hashed.
      let has_hashes : HasHashes types a token = record {
        accepted = accepted;
        of_token = hashed types v token x.alg x.key x.signed x.chosen (claimed_hash token) (access_tokens_in query) token_hashed;
        of_code = hashed types v token x.alg x.key x.signed x.chosen (claimed_code_hash token) (codes_in query) code_hashed;
      } in
      at_when P Q (has_other_token types v token query) _ _ (λ other. record {
        token = token;
        has_hashes = has_hashes;
        other_token = misfits types v token x.alg x.key x.signed x.chosen (claimed_hash token) (access_tokens_in query) other;
      }) (λ same_token.
      let fits_token : FitsToken types a token = record {
        has_hashes = has_hashes;
        fits_token = fits types v token x.alg x.key x.signed x.chosen (claimed_hash token) (access_tokens_in query) has_hashes.of_token same_token;
      } in
      at_when P Q (has_other_code types v token query a.client.code_hash_required) _ _ (λ other. record {
        token = token;
        fits = fits_token;
        other_code = misfits_demanded types v token x.alg x.key x.signed x.chosen a.client.code_hash_required (claimed_code_hash token) (codes_in query) other;
      }) (λ same_code. record {
        short_query = short;
        own_state = has_state.own_state;
        no_error = has_no_error.no_error;
        text = text;
        one_id_token = one;
        read = read;
        accepted = x;
        fits_token = fits_token.fits_token;
        fits_code = fits_demanded types v token x.alg x.key x.signed x.chosen a.client.code_hash_required (claimed_code_hash token) (codes_in query) has_hashes.of_code same_code;
        has_code_hash = has_demanded types v token x.alg x.key x.signed x.chosen a.client.code_hash_required (claimed_code_hash token) (codes_in query) same_code;
        own_access_token = refl;
        own_code = refl;
      }))))))))))
