-- Each cause of an answer of `front_channel` has its row: the facts of a cause compute the answer.
use Rattle.std.proofs.Common.{◌≡◌, ◌≢◌, ℕ, List, [], ◌∷◌, Bool, true, false, Option, None, Some, Result, Ok, Err, refl, sym, ap, subst, ◌∙◌, inl, inr, ⊎_elim}
use Rattle.std.specs.Prelude.{◌⊎◌, not, ◌||◌, codes, option_map, IsSome}
use Rattle.std.specs.Option.{ok_or}
use Rattle.std.specs.Str.{bytes_eq}
use Rattle.std.proofs.lemmas.Slice.Eq.{bytes_eq-Decides}
use Rattle.oidc_members.specs.declared.refusal.Refusal.{Refusal}
use Rattle.oidc_pairs.specs.Pairs.{pairs, values, first_of, only_of}
use Rattle.oidc_types.specs.{signing_text}
use Rattle.oidc_types.specs.declared.core_algorithms.CoreJwsSigningAlgorithm.{CoreJwsSigningAlgorithm}
use Rattle.oidc_types.specs.declared.core_authorization.CoreAuthErrorResponseType.{CoreAuthErrorResponseType}
use Rattle.oidc_types.specs.declared.signing_error.SigningError.{SigningError}
use Rattle.oidc_types.specs.declared.signing_error.SigningError.TheVariants.{UnsupportedAlg}
use Rattle.oidc_jwt.specs.declared.header.JsonWebTokenAlgorithm.TheVariants as algorithm
use Rattle.oidc_oauth2.specs.Replies.{◌>>=◌, ◌>>◌, ◌when◌, ◌for◌, ◌or◌, ◌or_as◌}
use Rattle.oidc_oauth2.specs.TokenAnswers.{is_over_long}
use Rattle.oidc_tokens.specs.Hashes.{hash_text}
use Rattle.oidc_tokens.specs.Signatures.{key_for}
use Rattle.oidc_tokens.specs.declared.verification.refusals.ClaimsVerificationError.{ClaimsVerificationError}
use Rattle.oidc_login.specs.Types.{SiteTypes}
use Rattle.oidc_login.specs.BeforeRequest.{error_word, state_in, error_in}
use Rattle.oidc_login.specs.Token.{SeenIdToken, id_token_of, KeyVerifier, verifier_of, is_sent, IsAcceptedBy, failure_for, claimed_hash, claimed_code_hash, refusal_of_claim, claims_another, refusal_beside, is_another_beside, lacks_claim}
use Rattle.oidc_login.specs.FrontChannel.{FrontReply, FrontAttempt, SeenFrontAnswer, front_answer, front, id_token_in, access_tokens_in, codes_in, is_several, token_hash_refusal, code_hash_refusal, has_other_token, has_other_code}
use Rattle.oidc_login.specs.FrontCauses.{IsClaimed, LacksClaim, IsAnotherHash, FitsValues, MisfitsValues, HasState, HasNoError, HasIdToken, ReadsIdToken, AcceptsIdToken, own_hash_function, HasHashes, IsFrontAnswer, FrontCause}
use Rattle.oidc_login.specs.declared.front.FrontError.{FrontError}
use Rattle.oidc_login.specs.declared.front.FrontError.TheVariants as refusal
use Rattle.oidc_login.proofs.Verification.{accepted}
use Rattle.oidc_login.proofs.TokenHash.{beside, differ}

same_some : (x y : List ℕ) → ◌≡◌ {A = Option (List ℕ)} (Some x) (Some y) → x ≡ y
same_some x y is = cc

-- ---- the state

same_as_sent : (own : List ℕ) → not (bytes_eq own own) ≡ false
same_as_sent own = ap not ((bytes_eq-Decides own own).1 refl)

sent_back : (own : List ℕ) (state : Option (List ℕ)) → state ≡ Some own → not (is_sent own state) ≡ false
sent_back own state is = ap (λ s. not (is_sent own s)) is ∙ same_as_sent own

not_sent_back : (own : List ℕ) (state : Option (List ℕ)) → state ≢ Some own → not (is_sent own state) ≡ true
not_sent_back own None other = refl
not_sent_back own (Some state) other = ap not (differ state own (λ same. other (ap Some same)))

-- ---- a test of three parts

or_more : (a b c : Bool) → (a || b) ≡ true → (a || (b || c)) ≡ true
or_more true b c is = refl
or_more false true c is = refl
or_more false false c is = absurd cc

all_false : (a b c : Bool) → (a || b) ≡ false → c ≡ false → (a || (b || c)) ≡ false
all_false true b c is none = is
all_false false true c is none = is
all_false false false c is none = none

-- ---- a claim and the values that stand for it

module _ {AC GC Key Use : Type 0} (types : SiteTypes AC GC Key Use) (v : KeyVerifier Key) (token : SeenIdToken AC GC) (alg : CoreJwsSigningAlgorithm) (key : Key)
    (signed : token.header.alg ≡ algorithm.Signature alg) (chosen : key_for types.keys v token.header.kid alg ≡ Ok key) where
  abbrev hash : Option (List ℕ → List ℕ)
  hash = types.keys.keys.hash_of key alg

  abbrev unsupported : SigningError
  unsupported = UnsupportedAlg (signing_text alg)

  refusal_by : (claim text : List ℕ) (own : Option (List ℕ → List ℕ)) → hash ≡ own
      → refusal_beside types v token (Some claim) (Some text) ≡ refusal_of_claim (Some claim) (ok_or (hash_text own text) unsupported)
  refusal_by claim text own is =
      ap (refusal_of_claim (Some claim)) (beside types v token alg key signed chosen text) ∙ ap (λ h. refusal_of_claim (Some claim) (ok_or (hash_text h text) unsupported)) is

  another_by : (claim text : List ℕ) (own : Option (List ℕ)) → hash_text hash text ≡ own
      → is_another_beside types v token (Some claim) (Some text) ≡ claims_another (Some claim) (ok_or own unsupported)
  another_by claim text own is =
      ap (claims_another (Some claim)) (beside types v token alg key signed chosen text) ∙ ap (λ o. claims_another (Some claim) (ok_or o unsupported)) is

  -- no hash goes with the algorithm
  pub unhashed_back : (claim : Option (List ℕ)) (found : List (List ℕ)) → types.keys.keys.hash_of key alg ≡ None → IsClaimed claim found
      → refusal_beside types v token claim (first_of found) ≡ Some (UnsupportedAlg (signing_text alg))
  unhashed_back claim [] none x = let there : false ≡ true = x.has_value in absurd cc
  unhashed_back None (text ∷ others) none x = let there : false ≡ true = x.has_claim in absurd cc
  unhashed_back (Some claim) (text ∷ others) none x = refusal_by claim text None none

  -- then the row of another claim says the same, or nothing
  pub says : (claim : Option (List ℕ)) (found : List (List ℕ)) → types.keys.keys.hash_of key alg ≡ None
      → (refusal_beside types v token claim (first_of found) ≡ None) ⊎ (refusal_beside types v token claim (first_of found) ≡ Some (UnsupportedAlg (signing_text alg)))
  says claim [] none = inl refl
  says None (text ∷ others) none = inl refl
  says (Some claim) (text ∷ others) none = inr (refusal_by claim text None none)

  hashed_by : (own : Option (List ℕ → List ℕ)) (claim text : List ℕ) → hash ≡ own → IsSome own → refusal_beside types v token (Some claim) (Some text) ≡ None
  hashed_by None claim text is there = absurd cc
  hashed_by (Some hashes) claim text is there = refusal_by claim text (Some hashes) is

  -- there is a hash wherever one is claimed of a value that is there
  pub hashed_back : (claim : Option (List ℕ)) (found : List (List ℕ)) → (IsClaimed claim found → IsSome (types.keys.keys.hash_of key alg)) → refusal_beside types v token claim (first_of found) ≡ None
  hashed_back claim [] hashes = refl
  hashed_back None (text ∷ others) hashes = refl
  hashed_back (Some claim) (text ∷ others) hashes = hashed_by hash claim text refl (hashes (record { has_claim = refl; has_value = refl }))

  another : (claim text : List ℕ) → IsAnotherHash types (Some claim) key alg text → is_another_beside types v token (Some claim) (Some text) ≡ true
  another claim text x =
      let same : x.claimed ≡ claim = same_some x.claimed claim (sym x.is_claimed) in
      another_by claim text (Some x.hash) x.has_hash ∙ ap not (differ x.hash claim (subst (λ c. x.hash ≢ c) same x.another))

  pub misfits_back : (claim : Option (List ℕ)) (found : List (List ℕ)) → MisfitsValues types claim key alg found → (is_several found || is_another_beside types v token claim (first_of found)) ≡ true
  misfits_back claim [] x = absurd x
  misfits_back None (text ∷ []) x = let none = x.is_claimed in absurd cc
  misfits_back (Some claim) (text ∷ []) x = another claim text x
  misfits_back claim (text ∷ next ∷ others) x = refl

  pub fits_back : (claim : Option (List ℕ)) (found : List (List ℕ)) → FitsValues types claim key alg found → (is_several found || is_another_beside types v token claim (first_of found)) ≡ false
  fits_back claim [] x = refl
  fits_back None (text ∷ []) x = refl
  fits_back (Some claim) (text ∷ []) x = another_by claim text (Some claim) (x claim refl) ∙ same_as_sent claim
  fits_back claim (text ∷ next ∷ others) x = absurd x

  -- ---- the same where a hash may be demanded

  lacking : (demanded : Bool) (claim : Option (List ℕ)) (found : List (List ℕ)) → LacksClaim demanded claim found
      → (is_several found || (is_another_beside types v token claim (first_of found) || lacks_claim demanded claim (first_of found))) ≡ true
  lacking demanded claim [] x = let there : false ≡ true = x.has_value in absurd cc
  lacking demanded None (text ∷ []) x = x.is_demanded
  lacking demanded (Some claim) (text ∷ []) x = let none = x.no_claim in absurd cc
  lacking demanded claim (text ∷ next ∷ others) x = refl

  pub misfits_demanded : (demanded : Bool) (claim : Option (List ℕ)) (found : List (List ℕ)) → MisfitsValues types claim key alg found ⊎ LacksClaim demanded claim found
      → (is_several found || (is_another_beside types v token claim (first_of found) || lacks_claim demanded claim (first_of found))) ≡ true
  misfits_demanded demanded claim found misfit =
      ⊎_elim
      (λ x. or_more (is_several found) (is_another_beside types v token claim (first_of found)) (lacks_claim demanded claim (first_of found)) (misfits_back claim found x))
      (lacking demanded claim found) misfit

  nothing_lacks : (demanded : Bool) (claim : Option (List ℕ)) (found : List (List ℕ)) → FitsValues types claim key alg found → (demanded ≡ true → IsSome (only_of found) → IsSome claim)
      → lacks_claim demanded claim (first_of found) ≡ false
  nothing_lacks demanded claim [] x has = refl
  nothing_lacks true None (text ∷ []) x has = let there : false ≡ true = has refl refl in absurd cc
  nothing_lacks false None (text ∷ []) x has = refl
  nothing_lacks demanded (Some claim) (text ∷ []) x has = refl
  nothing_lacks demanded claim (text ∷ next ∷ others) x has = absurd x

  pub fits_demanded : (demanded : Bool) (claim : Option (List ℕ)) (found : List (List ℕ)) → FitsValues types claim key alg found → (demanded ≡ true → IsSome (only_of found) → IsSome claim)
      → (is_several found || (is_another_beside types v token claim (first_of found) || lacks_claim demanded claim (first_of found))) ≡ false
  fits_demanded demanded claim found x has =
      all_false (is_several found) (is_another_beside types v token claim (first_of found)) (lacks_claim demanded claim (first_of found)) (fits_back claim found x) (nothing_lacks demanded claim found x has)

  there_by : (own : Option (List ℕ → List ℕ)) (claim text : List ℕ) → hash_text own text ≡ Some claim → IsSome own
  there_by None claim text is = absurd cc
  there_by (Some hashes) claim text is = refl

  -- what fits has a hash
  pub fits_hashed : (claim : Option (List ℕ)) (found : List (List ℕ)) → FitsValues types claim key alg found → IsClaimed claim found → IsSome (types.keys.keys.hash_of key alg)
  fits_hashed claim [] x is = let there : false ≡ true = is.has_value in absurd cc
  fits_hashed None (text ∷ []) x is = let there : false ≡ true = is.has_claim in absurd cc
  fits_hashed (Some claim) (text ∷ []) x is = there_by hash claim text (x claim refl)
  fits_hashed claim (text ∷ next ∷ others) x is = absurd x

-- ---- the stages that were passed

module _ {AC GC Key Use : Type 0} (types : SiteTypes AC GC Key Use) (a : FrontAttempt Key) where
  abbrev reply : FrontReply (SeenFrontAnswer AC GC)
  reply = front types a

  abbrev query : List (List ℕ × List ℕ)
  query = pairs a.query

  abbrev v : KeyVerifier Key
  v = verifier_of types a.client

  -- the rows from each of them on
  abbrev by_hashes : Option SigningError → Option SigningError → Bool → Bool → SeenFrontAnswer AC GC → FrontReply (SeenFrontAnswer AC GC)
  by_hashes of_token of_code other_token other_code answer =
      (refusal.Signing for of_token) >> ((refusal.Signing for of_code) >> ((refusal.TokenHash when other_token) >> ((refusal.CodeHash when other_code) >> Ok answer)))

  abbrev of_token : SeenIdToken AC GC → Option SigningError
  of_token token = token_hash_refusal types v token query

  abbrev of_code : SeenIdToken AC GC → Option SigningError
  of_code token = code_hash_refusal types v token query

  abbrev other_token : SeenIdToken AC GC → Bool
  other_token token = has_other_token types v token query

  abbrev other_code : SeenIdToken AC GC → Bool
  other_code token = has_other_code types v token query a.client.code_hash_required

  abbrev by_check : SeenIdToken AC GC → Option ClaimsVerificationError → FrontReply (SeenFrontAnswer AC GC)
  by_check token failure = (refusal.Claims for failure) >> by_hashes (of_token token) (of_code token) (other_token token) (other_code token) (front_answer token query)

  abbrev by_reading : Result (SeenIdToken AC GC) Refusal → FrontReply (SeenFrontAnswer AC GC)
  by_reading read = (read or_as refusal.Parse) >>= λ token. by_check token (failure_for types a.client a.nonce a.now token)

  abbrev by_text : Option (List ℕ) → FrontReply (SeenFrontAnswer AC GC)
  by_text text = (text or refusal.NoIdToken) >>= λ t. by_reading (id_token_of types a.client.reading t)

  abbrev by_error : Option CoreAuthErrorResponseType → FrontReply (SeenFrontAnswer AC GC)
  by_error code = (refusal.Provider for code) >> by_text (id_token_in query)

  abbrev by_state : Bool → FrontReply (SeenFrontAnswer AC GC)
  by_state other = (refusal.State when other) >> by_error (error_in query)

  abbrev by_size : Bool → FrontReply (SeenFrontAnswer AC GC)
  by_size long = (refusal.TooLong when long) >> by_state (not (is_sent a.state (state_in query)))

  sized : (long : Bool) → is_over_long a.query ≡ long → reply ≡ by_size long
  unfolding front
  sized long is = ap by_size is

  stated : (other : Bool) → is_over_long a.query ≡ false → not (is_sent a.state (state_in query)) ≡ other → reply ≡ by_state other
  stated other short is = sized false short ∙ ap by_state is

  denied : (code : Option CoreAuthErrorResponseType) → HasState a → error_in query ≡ code → reply ≡ by_error code
  denied code x is = stated false x.short_query (sent_back a.state (state_in query) x.own_state) ∙ ap by_error is

  no_error : values a.query (codes "error") ≡ [] → error_in query ≡ None
  no_error none = ap (λ found. option_map error_word (first_of found)) none

  texted : (text : Option (List ℕ)) → HasNoError a → id_token_in query ≡ text → reply ≡ by_text text
  texted text x is = denied None x.has_state (no_error x.no_error) ∙ ap by_text is

  read : (text : List ℕ) (reading : Result (SeenIdToken AC GC) Refusal) → HasIdToken a text → id_token_of types a.client.reading text ≡ reading → reply ≡ by_reading reading
  read text reading x is = texted (Some text) x.has_no_error x.one_id_token ∙ ap by_reading is

  checked : (token : SeenIdToken AC GC) (failure : Option ClaimsVerificationError) → ReadsIdToken types a token → failure_for types a.client a.nonce a.now token ≡ failure → reply ≡ by_check token failure
  checked token failure x is = read x.text (Ok token) x.has_id_token x.read ∙ ap (by_check token) is

  abbrev hashed_reply : SeenIdToken AC GC → Option SigningError → Option SigningError → Bool → Bool → FrontReply (SeenFrontAnswer AC GC)
  hashed_reply token r s x y = by_hashes r s x y (front_answer token query)

  accepting : (token : SeenIdToken AC GC) → AcceptsIdToken types a token → reply ≡ hashed_reply token (of_token token) (of_code token) (other_token token) (other_code token)
  accepting token x = checked token None x.reads (accepted types a.client a.nonce a.now token x.accepts)

  -- ---- behind the acceptance

  module _ (token : SeenIdToken AC GC) (x : AcceptsIdToken types a token) where
    abbrev tokens : List (List ℕ)
    tokens = access_tokens_in query

    abbrev all_codes : List (List ℕ)
    all_codes = codes_in query

    abbrev unsupported_here : SigningError
    unsupported_here = UnsupportedAlg (signing_text x.accepts.alg)

    -- by what each row says
    by_rows : (r s : Option SigningError) (p q : Bool) → of_token token ≡ r → of_code token ≡ s → other_token token ≡ p → other_code token ≡ q → reply ≡ hashed_reply token r s p q
    by_rows r s p q first second third fourth = accepting token x ∙ (λ i. hashed_reply token (first i) (second i) (third i) (fourth i))

    token_unhashed : of_token token ≡ Some unsupported_here → reply ≡ Err (refusal.Signing unsupported_here)
    token_unhashed is = by_rows (Some unsupported_here) (of_code token) (other_token token) (other_code token) is refl refl refl

    code_unhashed : of_token token ≡ None → of_code token ≡ Some unsupported_here → reply ≡ Err (refusal.Signing unsupported_here)
    code_unhashed none is = by_rows None (Some unsupported_here) (other_token token) (other_code token) none is refl refl

    signing_row : own_hash_function types a token x ≡ None → IsClaimed (claimed_hash token) tokens ⊎ IsClaimed (claimed_code_hash token) all_codes → reply ≡ Err (refusal.Signing unsupported_here)
    signing_row none claimed =
        ⊎_elim
        (λ is. token_unhashed (unhashed_back types v token x.accepts.alg x.accepts.key x.accepts.signed x.accepts.chosen (claimed_hash token) tokens none is))
        (λ is.
        let code_is = unhashed_back types v token x.accepts.alg x.accepts.key x.accepts.signed x.accepts.chosen (claimed_code_hash token) all_codes none is in
        ⊎_elim (λ nothing. code_unhashed nothing code_is) (λ same. token_unhashed same)
        (says types v token x.accepts.alg x.accepts.key x.accepts.signed x.accepts.chosen (claimed_hash token) tokens none))
        claimed

  module _ (token : SeenIdToken AC GC) (x : HasHashes types a token) where
    abbrev k : IsAcceptedBy types a.client a.nonce a.now token
    k = x.accepted.accepts

    token_hashed : of_token token ≡ None
    token_hashed = hashed_back types v token k.alg k.key k.signed k.chosen (claimed_hash token) (access_tokens_in query) x.of_token

    code_hashed : of_code token ≡ None
    code_hashed = hashed_back types v token k.alg k.key k.signed k.chosen (claimed_code_hash token) (codes_in query) x.of_code

    token_row : MisfitsValues types (claimed_hash token) k.key k.alg (access_tokens_in query) → reply ≡ Err refusal.TokenHash
    token_row other =
        by_rows token x.accepted None None true (other_code token) token_hashed code_hashed
        (misfits_back types v token k.alg k.key k.signed k.chosen (claimed_hash token) (access_tokens_in query) other) refl

    code_row : FitsValues types (claimed_hash token) k.key k.alg (access_tokens_in query)
        → MisfitsValues types (claimed_code_hash token) k.key k.alg (codes_in query) ⊎ LacksClaim a.client.code_hash_required (claimed_code_hash token) (codes_in query)
        → reply ≡ Err refusal.CodeHash
    code_row fits other =
        by_rows token x.accepted None None false true token_hashed code_hashed
        (fits_back types v token k.alg k.key k.signed k.chosen (claimed_hash token) (access_tokens_in query) fits)
        (misfits_demanded types v token k.alg k.key k.signed k.chosen a.client.code_hash_required (claimed_code_hash token) (codes_in query) other)

    answer_row : FitsValues types (claimed_hash token) k.key k.alg (access_tokens_in query) → FitsValues types (claimed_code_hash token) k.key k.alg (codes_in query)
        → (a.client.code_hash_required ≡ true → IsSome (only_of (codes_in query)) → IsSome (claimed_code_hash token)) → reply ≡ Ok (front_answer token query)
    answer_row fits_token fits_code has =
        by_rows token x.accepted None None false false token_hashed code_hashed
        (fits_back types v token k.alg k.key k.signed k.chosen (claimed_hash token) (access_tokens_in query) fits_token)
        (fits_demanded types v token k.alg k.key k.signed k.chosen a.client.code_hash_required (claimed_code_hash token) (codes_in query) fits_code has)

  -- ---- each row

  -- a cause has its refusal
  pub refused : (e : FrontError) → FrontCause types a e → front types a ≡ Err e
  refused refusal.TooLong c = sized true c
  refused refusal.State c = stated true c.short_query (not_sent_back a.state (state_in query) c.other_state)
  refused (refusal.Provider code) c = denied (Some code) c.has_state c.first_error
  refused refusal.NoIdToken c = texted None c.has_no_error c.not_one_id_token
  refused (refusal.Parse why) c = read c.text (Err why) c.has_id_token c.unread
  refused (refusal.Claims kind) c = checked c.token (Some kind) c.reads c.check_failed
  refused (refusal.Signing why) c = signing_row c.token c.accepted c.no_hash c.is_claimed ∙ ap (λ e. Err (refusal.Signing e)) (sym c.names_algorithm)
  refused refusal.TokenHash c = token_row c.token c.has_hashes c.other_token
  refused refusal.CodeHash c = code_row c.token c.fits.has_hashes c.fits.fits_token c.other_code
  refused refusal.Memory c = absurd c

  -- what is accepted is an Ok
  pub answers : (answer : SeenFrontAnswer AC GC) → IsFrontAnswer types a answer → front types a ≡ Ok answer
  answers answer is =
      let token = answer.id_token in
      let k = is.accepted in
      let has_no_error : HasNoError a = record { has_state = record { short_query = is.short_query; own_state = is.own_state }; no_error = is.no_error } in
      let reads : ReadsIdToken types a token = record { text = is.text; has_id_token = record { has_no_error = has_no_error; one_id_token = is.one_id_token }; read = is.read } in
      let has_hashes : HasHashes types a token = record {
        accepted = record { reads = reads; accepts = k };
        of_token = fits_hashed types v token k.alg k.key k.signed k.chosen (claimed_hash token) (access_tokens_in query) is.fits_token;
        of_code = fits_hashed types v token k.alg k.key k.signed k.chosen (claimed_code_hash token) (codes_in query) is.fits_code;
      } in
      let same : front_answer token query ≡ answer = λ i. record { id_token = token; access_token = sym is.own_access_token i; code = sym is.own_code i } in
      answer_row token has_hashes is.fits_token is.fits_code (λ wanted there. is.has_code_hash wanted (subst (λ o. IsSome o) (sym is.own_code) there)) ∙ ap Ok same
