-- Each row of the table has its cause: one line for each row, in the order of the table.
use Rattle.std.proofs.Common.{◌≡◌, ℕ, List, [], ◌∷◌, drop, true, false, Option, None, Some, Result, Ok, Err, refl, sym, ap, subst, ◌∙◌, inl, inr}
use Rattle.std.specs.Prelude.{not, option_map, codes}
use Rattle.std.specs.Option.{ok_or}
use Rattle.std.specs.Str.{bytes_eq}
use Rattle.http_header.specs.FieldValue.{is_visible_text}
use Rattle.oidc_types.specs.{signing_text}
use Rattle.oidc_types.specs.declared.signing_error.SigningError.TheVariants.{UnsupportedAlg}
use Rattle.oidc_pairs.specs.Pairs.{pairs, values, first_of as first_value}
use Rattle.oidc_oauth2.specs.Messages.{SeenRequest, SeenResponse, SeenAnswer}
use Rattle.oidc_oauth2.specs.Transport.{first_answer}
use Rattle.oidc_oauth2.specs.TokenAnswers.{is_over_long}
use Rattle.oidc_oauth2.specs.declared.token_answers.OtherCause.TheVariants as other
use Rattle.oidc_oauth2.specs.declared.token_answers.RequestTokenError.TheVariants as token_error
use Rattle.oidc_oauth2.specs.AnswerCauses.{StatusCause}
use Rattle.oidc_oauth2.proofs.Theorems.{StatusRests}
use Rattle.oidc_tokens.proofs.Theorems.{failure_cause}
use Rattle.oidc_user_info.specs.UserInfoClaims.{SeenUserInfoClaims}
use Rattle.oidc_user_info.specs.InfoErrors.{InfoRefusal}
use Rattle.oidc_user_info.specs.InfoAnswers.{info_answer}
use Rattle.oidc_user_info.specs.InfoRequests.{SeenInfoRequest, info_request}
use Rattle.oidc_user_info.specs.InfoCauses as info_causes
use Rattle.oidc_user_info.specs.InfoRuns.{unmade}
use Rattle.oidc_user_info.proofs.Theorems.{Rests}
use Rattle.oidc_user_info.specs.declared.errors.InfoOther.TheVariants as info_other
use Rattle.oidc_user_info.specs.declared.errors.PrepareInfoError.{PrepareInfoError}
use Rattle.oidc_user_info.specs.declared.errors.PrepareInfoError.TheVariants as prepare
use Rattle.oidc_user_info.specs.declared.errors.UserInfoError.TheVariants as info_error
use Rattle.oidc_login.specs.Types.{SiteTypes}
use Rattle.oidc_login.specs.Logins.{SeenLogin}
use Rattle.oidc_login.specs.BeforeRequest.{token_request, error_word, login_named_by, error_in, code_in}
use Rattle.oidc_login.specs.Token.{Tokens, TokenError, error_read, tokens_read, tokens_or_refusal, SeenIdToken, subject_of, verifier_of, is_sent, failure_for, claimed_hash}
use Rattle.oidc_login.specs.SignedIn.{SeenSignedIn, signed_by}
use Rattle.oidc_login.specs.UserInfo.{info_ask}
use Rattle.oidc_login.specs.Errors.{Error}
use Rattle.oidc_login.specs.Callback.{Attempt, Meant, SeenTaken, SeenPreparedInfo, taken_login, user_of_answer, prepared_info, user_with_info, demand_run, outcome}
use Rattle.oidc_login.specs.Steps.{prepared_by, prepared_run, taken_run}
use Rattle.oidc_login.specs.Causes.{Names, HasCode, Asks, Held, Answered, Reads, Holds, Accepted, own_hash, Fits, Demands, AsksInfo, InfoAnswered, IsSignedIn, TokenCause, UserInfoCause, Cause}
use Rattle.oidc_login.specs.declared.types.UserInfoDemand.{UserInfoDemand}
use Rattle.oidc_login.specs.declared.errors.LoginError.TheVariants.{UserInfo}
use Rattle.oidc_login.proofs.Walks.{Walk, at_or, at_or_as, at_when, at_for}
use Rattle.oidc_login.proofs.Answers.{rests}
use Rattle.oidc_login.proofs.InfoAnswers.{IsOwn, IsAbout, info_own, info_rests}
use Rattle.oidc_login.proofs.NoMemory.{NeverWants}
use Rattle.oidc_login.proofs.Asked.{bearer, uri, never_memory, no_endpoint, own_token}
use Rattle.oidc_login.proofs.Verification.{accepts}
use Rattle.oidc_login.proofs.TokenHash.{beside, differ_back, same_back, by_hash, by_check}
use Rattle.oidc_login.proofs.TokenRuns.{token_run}

pub no_value : (values : List (List ℕ)) → option_map error_word (first_value values) ≡ None → values ≡ []
no_value [] is = refl
no_value (value ∷ others) is = cc

module _ {AC GC Key Use : Type 0} (types : SiteTypes AC GC Key Use) (a : Attempt Key) (answers : List SeenAnswer) where
  abbrev Q : Error → Type 0
  Q e = Cause types a answers e

  -- ---- before the token request

  abbrev pub IsOpened : SeenTaken → Type 0
  IsOpened o = Asks a o.login o.request

  pub taken_login-walk : Walk IsOpened Q (taken_login a.client a.pending a.query)
  unfolding taken_login
  taken_login-walk =
      at_when _ _ (is_over_long a.query) _ _ (λ long. long) (λ short.
      at_or _ _ (login_named_by a.pending (pairs a.query)) _ _
      (λ none. record { short_query = short; none_named = none }) (λ l is_named.
      let names : Names a l = record { short_query = short; login_named = is_named } in
      at_for _ _ (error_in (pairs a.query)) _ _
      (λ code is. record { login = l; names = names; first_error = is }) (λ none.
      let no_error : values a.query (codes "error") ≡ [] = no_value (values a.query (codes "error")) none in
      at_or _ _ (code_in (pairs a.query)) _ _
      (λ not_one. record { login = l; names = names; no_error = no_error; not_one_code = not_one }) (λ code one_code.
      let has_code : HasCode a l code = record { names = names; no_error = no_error; one_code = one_code } in
      at_or _ _ (token_request a.client l code) _ _
      (λ none_made. record { login = l; code = code; has_code = has_code; no_request = none_made }) (λ r made.
      record { code = code; has_code = has_code; request_made = made })))))

  -- ---- behind it

  token_row : (l : SeenLogin) (r : SeenResponse) (e : TokenError) → Answered types a answers l r → StatusCause error_read (tokens_read types a.client.reading) r e → TokenCause types a answers e
  token_row l r (token_error.Request cause) answered why = absurd why
  token_row l r (token_error.Other other.Uri) answered why = absurd why
  token_row l r (token_error.TooLong body) answered why = absurd why
  token_row l r token_error.Memory answered why = absurd why
  token_row l r (token_error.Other other.EmptyBody) answered why = record { login = l; response = r; answered = answered; cause = why }
  token_row l r (token_error.Other other.MediaType) answered why = record { login = l; response = r; answered = answered; cause = why }
  token_row l r (token_error.ServerResponse error) answered why = record { login = l; response = r; answered = answered; cause = why }
  token_row l r (token_error.Parse refusal body) answered why = record { login = l; response = r; answered = answered; cause = why }

  abbrev IsHeldBy : SeenResponse → Result (Tokens AC GC) TokenError → Type 0
  IsHeldBy r worth = StatusRests error_read (tokens_read types a.client.reading) r worth

  abbrev pub held : SeenLogin → Tokens AC GC → SeenIdToken AC GC → Held AC GC
  held l ts token = record { login = l; tokens = ts; token = token }

  -- a user who is signed in but for user info
  pub record IsHeld (l : SeenLogin) (user : SeenSignedIn AC GC) : Type 0 where
    pub tokens : Tokens AC GC
    pub token : SeenIdToken AC GC
    pub fits : Fits types a answers (held l tokens token)
    pub own : signed_by token tokens ≡ user

  is_held : (h : Held AC GC) → Fits types a answers h → IsHeld h.login (signed_by h.token h.tokens)
  is_held h fits = record { tokens = h.tokens; token = h.token; fits = fits; own = refl }

  -- by the claim in the ID token, and by the hash of the access token, where there is one
  claim-walk : (h : Held AC GC) (accepted : Accepted types a answers h) (claim own : Option (List ℕ)) → claimed_hash h.token ≡ claim → own_hash types a answers h accepted ≡ own
      → Walk (IsHeld h.login) Q (by_hash h claim (ok_or own (UnsupportedAlg (signing_text accepted.accepts.alg))))
  claim-walk h accepted None own is_claim is_own = is_held h (record { accepted = accepted; fits_hash = λ claim is. let none = sym is_claim ∙ is in cc })
  claim-walk h accepted (Some claim) None is_claim is_own = record {
    held = h;
    claim = claim;
    names_hash = record { accepted = accepted; own_claim = is_claim };
    no_hash = is_own;
    names_algorithm = refl;
  }
  claim-walk h accepted (Some claim) (Some hash) is_claim is_own =
      at_when (IsHeld h.login) Q (not (bytes_eq hash claim)) _ _
      (λ other. record {
        held = h;
        claim = claim;
        names_hash = record { accepted = accepted; own_claim = is_claim };
        hash = hash;
        has_hash = is_own;
        other = differ_back hash claim other;
      }) (λ same. is_held h (record {
        accepted = accepted;
        fits_hash = λ c is. is_own ∙ ap Some (same_back hash claim same) ∙ sym is_claim ∙ is;
      }))

  check-walk : (h : Held AC GC) → Holds types a answers h → Walk (IsHeld h.login) Q (by_check types a.client h (failure_for types a.client h.login.nonce a.now h.token))
  check-walk h holds =
      at_for (IsHeld h.login) Q (failure_for types a.client h.login.nonce a.now h.token) _ _ (λ kind is. record {
        held = h;
        holds = holds;
        check_failed = is;
        cause = failure_cause types.keys (verifier_of types a.client) (is_sent h.login.nonce) a.now h.token kind is;
      }) (λ none_fails.
      let accepted : Accepted types a answers h = record { holds = holds; accepts = accepts types a.client h.login.nonce a.now h.token none_fails } in
      let x = accepted.accepts in
      subst (λ r. Walk (IsHeld h.login) Q (by_hash h (claimed_hash h.token) r)) (sym (beside types (verifier_of types a.client) h.token x.alg x.key x.signed x.chosen h.tokens.access_token))
      (claim-walk h accepted _ _ refl refl))

  pub user_of_answer-walk : (l : SeenLogin) (request : SeenRequest) → Asks a l request
      → Walk (IsHeld l) Q (user_of_answer types a.client a.now l (first_answer answers))
  unfolding user_of_answer
  user_of_answer-walk l request asked =
      at_or _ _ (first_answer answers) _ _
      (λ none. record { login = l; request = request; asked = asked; no_response = none }) (λ r came.
      at_when _ _ (is_over_long r.body) _ _
      (λ long. record { login = l; request = request; asked = asked; response = r; response_came = came; too_long = long }) (λ short.
      let answered : Answered types a answers l r = record { request = request; asked = asked; response_came = came; not_too_long = short } in
      at_or_as _ _ (tokens_or_refusal types a.client.reading r) _ _
      (λ e is. token_row l r e answered (subst (IsHeldBy r) is (rests types a.client.reading r))) (λ ts is.
      let reads : Reads types a answers l ts = record { response = r; answered = answered; tokens_held = subst (IsHeldBy r) is (rests types a.client.reading r) } in
      at_or _ _ ts.extra_fields.id_token _ _
      (λ none. record { login = l; tokens = ts; reads = reads; no_id_token = none }) (λ token own.
      check-walk (held l ts token) (record { reads = reads; own_id_token = own })))))

  -- ---- user info

  unmade_row : (h : Held AC GC) (ask : SeenInfoRequest Key) → Demands types a answers h ask → ask.access_token ≡ h.tokens.access_token
      → (e : PrepareInfoError) → info_request ask ≡ Err e → Q (UserInfo (unmade e))
  unmade_row h ask demands same prepare.Bearer is =
      record { held = h; ask = ask; demands = demands; no_header_text = subst (λ t. is_visible_text t ≡ false) same (bearer ask is) }
  unmade_row h ask demands same prepare.Uri is =
      let both = uri ask is in
      inl (record { held = h; ask = ask; demands = demands; header_text = subst (λ t. is_visible_text t ≡ true) same both.0; no_address = both.1 })
  unmade_row h ask demands same prepare.Memory is = absurd (never_memory ask is)

  abbrev pub IsAskedOf : Held AC GC → SeenPreparedInfo Key → Type 0
  IsAskedOf h asked = AsksInfo types a answers h asked.ask asked.request

  prepared_by-walk : (h : Held AC GC) (ask : SeenInfoRequest Key) → Demands types a answers h ask → ask.access_token ≡ h.tokens.access_token
      → Walk (IsAskedOf h) Q (prepared_by ask)
  prepared_by-walk h ask demands same =
      at_or_as _ _ (info_request ask) _ _ (λ e is. unmade_row h ask demands same e is)
      (λ r made. record { demands = demands; request_made = made })

  pub prepared_info-walk : (h : Held AC GC) → Fits types a answers h → (demand : UserInfoDemand) → h.login.user_info ≡ Some demand
      → Walk (IsAskedOf h) Q (prepared_info a.client demand (signed_by h.token h.tokens))
  unfolding prepared_info
  prepared_info-walk h fits demand is_demand =
      at_or _ _ (info_ask a.client demand h.tokens.access_token (subject_of h.token)) _ _
      (λ none. inr (record {
        held = h;
        fits = fits;
        demand = demand;
        demanded = is_demand;
        no_endpoint = no_endpoint a.client demand h.tokens.access_token (subject_of h.token) none;
      })) (λ ask own.
      prepared_by-walk h ask (record { fits = fits; demand = demand; demanded = is_demand; own_ask = own })
      (own_token a.client demand h.tokens.access_token (subject_of h.token) ask own))

  module _ (h : Held AC GC) (ask : SeenInfoRequest Key) (r : SeenResponse) (answered : InfoAnswered types a answers h ask r) where
    abbrev Own : InfoRefusal → Type 0
    Own e = IsOwn (IsAbout types ask.demand) (Err e)

    own_row : (e : InfoRefusal) → info_answer types ask.demand r ≡ Err e → Own e
    own_row e is = subst (IsOwn (IsAbout types ask.demand)) is (info_own types ask.demand r answered.not_too_long)

    info_row : (e : InfoRefusal) → info_answer types ask.demand r ≡ Err e → info_causes.Cause ask (drop 1 answers) types e → UserInfoCause types a answers e
    info_row (info_error.Request cause) is why = absurd (own_row (info_error.Request cause) is)
    info_row (info_error.Other info_other.Bearer) is why = absurd (own_row (info_error.Other info_other.Bearer) is)
    info_row (info_error.Other info_other.Uri) is why = absurd (own_row (info_error.Other info_other.Uri) is)
    info_row (info_error.TooLong body) is why = absurd (own_row (info_error.TooLong body) is)
    info_row info_error.Memory is why = absurd (own_row info_error.Memory is)
    info_row (info_error.Other info_other.Utf8) is why = record { held = h; ask = ask; response = r; answered = answered; cause = why }
    info_row (info_error.ClaimsVerification kind) is why = record { held = h; ask = ask; response = r; answered = answered; cause = why }
    info_row (info_error.Parse refusal) is why = record { held = h; ask = ask; response = r; answered = answered; cause = why }
    info_row (info_error.Response status body cause) is why = record { held = h; ask = ask; response = r; answered = answered; cause = why }

  -- this user info came about who is held
  pub record IsFoundFor (h : Held AC GC) (ask : SeenInfoRequest Key) (found : SeenUserInfoClaims AC GC) : Type 0 where
    pub response : SeenResponse
    pub answered : InfoAnswered types a answers h ask response
    pub info_held : info_causes.IsUserInfo ask (drop 1 answers) types found

  signed : (h : Held AC GC) → Fits types a answers h → (ask : SeenInfoRequest Key) (found : SeenUserInfoClaims AC GC) → IsFoundFor h ask found
      → IsSignedIn types a answers (record (signed_by h.token h.tokens) { user_info = Some found })
  signed h fits ask found x = record {
    held = h;
    holds = fits.accepted.holds;
    accepted = fits.accepted.accepts;
    fits_hash = fits.fits_hash;
    own_id_token = refl;
    own_access_token = refl;
    own_refresh_token = refl;
    info = record { ask = ask; response = x.response; answered = x.answered; info_held = x.info_held };
  }

  user_with_info-walk : NeverWants types → (h : Held AC GC) (ask : SeenInfoRequest Key) (request : SeenRequest) → AsksInfo types a answers h ask request
      → Walk (IsSignedIn types a answers) Q (user_with_info types ask.demand (signed_by h.token h.tokens) (first_answer (drop 1 answers)))
  unfolding user_with_info
  user_with_info-walk never h ask request asked =
      at_or _ _ (first_answer (drop 1 answers)) _ _
      (λ none. record { held = h; ask = ask; request = request; asked = asked; no_response = none }) (λ r came.
      at_when _ _ (is_over_long r.body) _ _
      (λ long. record { held = h; ask = ask; request = request; asked = asked; response = r; response_came = came; too_long = long }) (λ short.
      let answered : InfoAnswered types a answers h ask r = record { request = request; asked = asked; response_came = came; not_too_long = short } in
      let rests = info_rests types ask (drop 1 answers) request asked.request_made r came never in
      at_or_as _ _ (info_answer types ask.demand r) _ _
      (λ e is. info_row h ask r answered e is (subst (Rests types ask (drop 1 answers)) is rests)) (λ found is.
      signed h asked.demands.fits ask found (record { response = r; answered = answered; info_held = subst (Rests types ask (drop 1 answers)) is rests }))))

  -- ---- the whole

  prepared_run-walk : NeverWants types → (h : Held AC GC) (m : Meant (SeenPreparedInfo Key)) → Walk (IsAskedOf h) Q m
      → Walk (IsSignedIn types a answers) Q (prepared_run types (signed_by h.token h.tokens) (drop 1 answers) m).reply
  prepared_run-walk never h (Err e) walk = walk
  prepared_run-walk never h (Ok asked) walk = user_with_info-walk never h asked.ask asked.request walk

  demand_run-walk : NeverWants types → (h : Held AC GC) → Fits types a answers h → (demand : Option UserInfoDemand) → h.login.user_info ≡ demand
      → Walk (IsSignedIn types a answers) Q (demand_run types a.client demand (signed_by h.token h.tokens) (drop 1 answers)).reply
  demand_run-walk never h fits None none = record {
    held = h;
    holds = fits.accepted.holds;
    accepted = fits.accepted.accepts;
    fits_hash = fits.fits_hash;
    own_id_token = refl;
    own_access_token = refl;
    own_refresh_token = refl;
    info = none;
  }
  demand_run-walk never h fits (Some demand) is = prepared_run-walk never h _ (prepared_info-walk h fits demand is)

  token_run-walk : NeverWants types → (l : SeenLogin) (m : Meant (SeenSignedIn AC GC)) → Walk (IsHeld l) Q m
      → Walk (IsSignedIn types a answers) Q (token_run types a.client l (drop 1 answers) m).reply
  token_run-walk never l (Err e) walk = walk
  token_run-walk never l (Ok user) x =
      subst (λ u. Walk (IsSignedIn types a answers) Q (demand_run types a.client l.user_info u (drop 1 answers)).reply) x.own
      (demand_run-walk never (held l x.tokens x.token) x.fits l.user_info refl)

  taken_run-walk : NeverWants types → (opened : Meant SeenTaken) → Walk IsOpened Q opened → Walk (IsSignedIn types a answers) Q (taken_run types a.client a.now answers opened).reply
  taken_run-walk never (Err e) walk = walk
  taken_run-walk never (Ok opened) walk = token_run-walk never opened.login _ (user_of_answer-walk opened.login opened.request walk)

  -- a reply rests on its cause, and an Ok on all that signs in
  pub outcome-walk : NeverWants types → Walk (IsSignedIn types a answers) Q (outcome types a answers).reply
  outcome-walk never = taken_run-walk never (taken_login a.client a.pending a.query) taken_login-walk
