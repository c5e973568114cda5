-- Each cause has its row: the facts of a cause compute the reply.
use Rattle.std.proofs.Common.{◌≡◌, ℕ, List, drop, Bool, true, false, Option, None, Some, Result, Ok, Err, refl, sym, ap, ◌∙◌, ⊎_elim}
use Rattle.std.specs.Option.{ok_or}
use Rattle.http_header.specs.FieldValue.{is_visible_text}
use Rattle.oidc_types.specs.{signing_text}
use Rattle.oidc_types.specs.declared.signing_error.SigningError.TheVariants.{UnsupportedAlg}
use Rattle.oidc_pairs.specs.Pairs.{pairs}
use Rattle.oidc_oauth2.specs.Messages.{SeenRequest, SeenResponse, SeenAnswer}
use Rattle.oidc_oauth2.specs.Transport.{first_answer}
use Rattle.oidc_oauth2.specs.Replies.{◌>>=◌, ◌>>◌, ◌when◌, ◌or◌, ◌or_as◌}
use Rattle.oidc_oauth2.specs.TokenAnswers.{is_over_long}
use Rattle.oidc_oauth2.specs.declared.token_answers.OtherCause.TheVariants as other
use Rattle.oidc_oauth2.specs.declared.token_answers.RequestTokenError.TheVariants as token_error
use Rattle.oidc_tokens.specs.declared.verification.refusals.ClaimsVerificationError.{ClaimsVerificationError}
use Rattle.oidc_user_info.specs.UserInfoClaims.{SeenUserInfoClaims}
use Rattle.oidc_user_info.specs.InfoErrors.{InfoRefusal}
use Rattle.oidc_user_info.specs.InfoAnswers.{info_answer}
use Rattle.oidc_user_info.specs.InfoRequests.{SeenInfoRequest, info_request}
use Rattle.oidc_user_info.specs.InfoRuns.{unmade}
use Rattle.oidc_user_info.specs.declared.errors.InfoOther.TheVariants as info_other
use Rattle.oidc_user_info.specs.declared.errors.PrepareInfoError.{PrepareInfoError}
use Rattle.oidc_user_info.specs.declared.errors.PrepareInfoError.TheVariants as prepare
use Rattle.oidc_user_info.specs.declared.errors.UserInfoError.TheVariants as info_error
use Rattle.oidc_login.specs.Types.{SiteTypes}
use Rattle.oidc_login.specs.Logins.{SeenLogin}
use Rattle.oidc_login.specs.Token.{Tokens, TokenError, tokens_or_refusal, SeenIdToken, subject_of, verifier_of, failure_for, claimed_hash}
use Rattle.oidc_login.specs.SignedIn.{SeenSignedIn, signed_by}
use Rattle.oidc_login.specs.Errors.{Error}
use Rattle.oidc_login.specs.Callback.{Attempt, Meant, SeenTaken, SeenPreparedInfo, taken_login, user_of_answer, prepared_info, user_with_info, demand_run, outcome}
use Rattle.oidc_login.specs.Steps.{taken_login_by, prepared_by, prepared_run, taken_run}
use Rattle.oidc_login.specs.Causes.{Asks, Reads, Held, Holds, Accepted, own_hash, Fits, Demands, AsksInfo, HasInfo, HoldsInfo, IsSignedIn, HasNoTokens, HasNoInfo, HasNoInfoAddress, LacksEndpoint, TooLongCause, TokenCause, UserInfoCause, Cause}
use Rattle.oidc_login.specs.declared.errors.TooLong.{TooLong}
use Rattle.oidc_login.specs.declared.errors.TooLong.TheVariants as place
use Rattle.oidc_login.specs.declared.errors.LoginError.TheVariants as login
use Rattle.oidc_login.specs.declared.types.UserInfoDemand.{UserInfoDemand}
use Rattle.oidc_login.proofs.Asked.{bearer_back, uri_back, own_token, asking_of, asking_nowhere}
use Rattle.oidc_login.proofs.Answers.{tokens_back, refusal_back}
use Rattle.oidc_login.proofs.InfoAnswers.{found_back, unfound_back}
use Rattle.oidc_login.proofs.Verification.{accepted}
use Rattle.oidc_login.proofs.TokenHash.{beside, other_claim, own_claim, by_claim, by_hash, by_check}
use Rattle.oidc_login.proofs.TokenRuns.{token_run}

module _ {AC GC Key Use : Type 0} (types : SiteTypes AC GC Key Use) (a : Attempt Key) (answers : List SeenAnswer) where
  abbrev reply : Meant (SeenSignedIn AC GC)
  reply = (outcome types a answers).reply

  -- ---- the stages that were passed

  unopened : (e : Error) → taken_login a.client a.pending a.query ≡ Err e → reply ≡ Err e
  unopened e is = ap (λ m. (taken_run types a.client a.now answers m).reply) is

  -- a query that isn't too long
  read_further : is_over_long a.query ≡ false → (m : Meant SeenTaken) → taken_login_by a.client a.pending (pairs a.query) ≡ m → taken_login a.client a.pending a.query ≡ m
  unfolding taken_login taken_login_by
  read_further short m is = ap (λ b. (login.TooLong place.Callback when b) >> taken_login_by a.client a.pending (pairs a.query)) short ∙ is

  opened : (l : SeenLogin) (r : SeenRequest) → Asks a l r → taken_login a.client a.pending a.query ≡ Ok (record { login = l; request = r })
  unfolding taken_login_by
  opened l r asked =
      let h = asked.has_code in
      read_further h.names.short_query (Ok (record { login = l; request = r })) (rw (h.names.login_named, h.no_error, h.one_code, asked.request_made) refl)

  abbrev next : SeenLogin → Meant (SeenSignedIn AC GC)
  next l = user_of_answer types a.client a.now l (first_answer answers)

  -- the reply, once the token request was made
  behind_request : (l : SeenLogin) (r : SeenRequest) → Asks a l r → reply ≡ (token_run types a.client l (drop 1 answers) (next l)).reply
  behind_request l r asked = ap (λ m. (taken_run types a.client a.now answers m).reply) (opened l r asked)

  token_refused : (l : SeenLogin) (r : SeenRequest) (e : Error) → Asks a l r → next l ≡ Err e → reply ≡ Err e
  token_refused l r e asked is = behind_request l r asked ∙ ap (λ m. (token_run types a.client l (drop 1 answers) m).reply) is

  -- the rows on its answer, from each of them on
  abbrev by_id_token : SeenLogin → Tokens AC GC → Option (SeenIdToken AC GC) → Meant (SeenSignedIn AC GC)
  by_id_token l tokens found =
      (found or login.NoIdToken) >>= λ token. by_check types a.client (record { login = l; tokens = tokens; token = token }) (failure_for types a.client l.nonce a.now token)

  abbrev by_tokens : SeenLogin → Result (Tokens AC GC) TokenError → Meant (SeenSignedIn AC GC)
  by_tokens l worth = (worth or_as login.Token) >>= λ tokens. by_id_token l tokens tokens.extra_fields.id_token

  abbrev by_size : SeenLogin → SeenResponse → Bool → Meant (SeenSignedIn AC GC)
  by_size l r long = (login.TooLong place.TokenAnswer when long) >> by_tokens l (tokens_or_refusal types a.client.reading r)

  abbrev by_answer : SeenLogin → SeenAnswer → Meant (SeenSignedIn AC GC)
  by_answer l answer = (answer or login.Token (token_error.Request tt)) >>= λ r. by_size l r (is_over_long r.body)

  next_sized : (l : SeenLogin) (r : SeenResponse) (long : Bool) → first_answer answers ≡ Some r → is_over_long r.body ≡ long → next l ≡ by_size l r long
  unfolding user_of_answer
  next_sized l r long came is = ap (by_answer l) came ∙ ap (by_size l r) is

  -- by what its response holds
  next_worth : (l : SeenLogin) (r : SeenResponse) (worth : Result (Tokens AC GC) TokenError) → first_answer answers ≡ Some r → is_over_long r.body ≡ false
      → tokens_or_refusal types a.client.reading r ≡ worth → next l ≡ by_tokens l worth
  next_worth l r worth came short is = next_sized l r false came short ∙ ap (by_tokens l) is

  refused_tokens : (e : TokenError) → HasNoTokens types a answers e → reply ≡ Err (login.Token e)
  refused_tokens e c =
      let x = c.answered in
      token_refused c.login x.request _ x.asked
      (next_worth c.login c.response (Err e) x.response_came x.not_too_long (refusal_back types a.client.reading c.response e c.cause))

  next_tokens : (l : SeenLogin) (tokens : Tokens AC GC) → Reads types a answers l tokens → next l ≡ by_id_token l tokens tokens.extra_fields.id_token
  next_tokens l tokens reads =
      let x = reads.answered in
      next_worth l reads.response (Ok tokens) x.response_came x.not_too_long (tokens_back types a.client.reading reads.response tokens reads.tokens_held)

  -- ---- the rows on the ID token

  -- by the first check that fails
  next_id_token : (h : Held AC GC) (failure : Option ClaimsVerificationError) → Holds types a answers h → failure_for types a.client h.login.nonce a.now h.token ≡ failure
      → next h.login ≡ by_check types a.client h failure
  next_id_token h failure holds is =
      next_tokens h.login h.tokens holds.reads ∙ ap (by_id_token h.login h.tokens) holds.own_id_token ∙ ap (by_check types a.client h) is

  -- by its claim, once it is accepted
  claimed : (h : Held AC GC) (x : Accepted types a answers h) (claim own : Option (List ℕ)) → claimed_hash h.token ≡ claim → own_hash types a answers h x ≡ own
      → next h.login ≡ by_hash h claim (ok_or own (UnsupportedAlg (signing_text x.accepts.alg)))
  claimed h x claim own is_claim is_own =
      let none_fails = accepted types a.client h.login.nonce a.now h.token x.accepts in
      let hash = beside types (verifier_of types a.client) h.token x.accepts.alg x.accepts.key x.accepts.signed x.accepts.chosen h.tokens.access_token in
      next_id_token h None x.holds none_fails
      ∙ ap (by_hash h (claimed_hash h.token)) hash
      ∙ ap (λ c. by_hash h c (ok_or (own_hash types a answers h x) (UnsupportedAlg (signing_text x.accepts.alg)))) is_claim
      ∙ ap (λ o. by_hash h claim (ok_or o (UnsupportedAlg (signing_text x.accepts.alg)))) is_own

  abbrev user_of : Held AC GC → SeenSignedIn AC GC
  user_of h = signed_by h.token h.tokens

  -- the hash that is claimed, where one is, is the own one
  fitting : (h : Held AC GC) (x : Accepted types a answers h) → ((claim : List ℕ) → claimed_hash h.token ≡ Some claim → own_hash types a answers h x ≡ Some claim)
      → (claim : Option (List ℕ)) → claimed_hash h.token ≡ claim → next h.login ≡ Ok (user_of h)
  fitting h x fits None is = claimed h x None _ is refl
  fitting h x fits (Some claim) is = claimed h x (Some claim) (Some claim) is (fits claim is) ∙ ap (by_claim h) (own_claim claim)

  -- the reply, once any hash fits
  behind_hash : (h : Held AC GC) → Fits types a answers h → reply ≡ (demand_run types a.client h.login.user_info (user_of h) (drop 1 answers)).reply
  behind_hash h fits =
      let x = fits.accepted in
      let answered = x.holds.reads.answered in
      behind_request h.login answered.request answered.asked
      ∙ ap (λ m. (token_run types a.client h.login (drop 1 answers) m).reply) (fitting h x fits.fits_hash _ refl)

  -- ---- user info

  abbrev asked_reply : Held AC GC → Meant (SeenPreparedInfo Key) → Meant (SeenSignedIn AC GC)
  asked_reply h m = (prepared_run types (user_of h) (drop 1 answers) m).reply

  behind_demand : (h : Held AC GC) → Fits types a answers h → (demand : UserInfoDemand) → h.login.user_info ≡ Some demand → reply ≡ asked_reply h (prepared_info a.client demand (user_of h))
  behind_demand h fits demand is = behind_hash h fits ∙ ap (λ d. (demand_run types a.client d (user_of h) (drop 1 answers)).reply) is

  behind_ask : (h : Held AC GC) (ask : SeenInfoRequest Key) → Demands types a answers h ask → reply ≡ asked_reply h (prepared_by ask)
  behind_ask h ask d = behind_demand h d.fits d.demand d.demanded ∙ ap (asked_reply h) (asking_of a.client d.demand (user_of h) ask d.own_ask)

  unmade_reply : (h : Held AC GC) (ask : SeenInfoRequest Key) (e : PrepareInfoError) → Demands types a answers h ask → info_request ask ≡ Err e → reply ≡ Err (login.UserInfo (unmade e))
  unmade_reply h ask e d is =
      behind_ask h ask d
      ∙ ap (λ m. asked_reply h ((m or_as (λ e. login.UserInfo (unmade e))) >>= λ request. Ok (record { ask = ask; request = request }))) is

  behind_info_request : (h : Held AC GC) (ask : SeenInfoRequest Key) (r : SeenRequest) → AsksInfo types a answers h ask r
      → reply ≡ user_with_info types ask.demand (user_of h) (first_answer (drop 1 answers))
  behind_info_request h ask r asked =
      behind_ask h ask asked.demands
      ∙ ap (λ m. asked_reply h ((m or_as (λ e. login.UserInfo (unmade e))) >>= λ request. Ok (record { ask = ask; request = request }))) asked.request_made

  -- the rows on its answer, from each of them on
  abbrev by_info : Held AC GC → Result (SeenUserInfoClaims AC GC) InfoRefusal → Meant (SeenSignedIn AC GC)
  by_info h worth = (worth or_as login.UserInfo) >>= λ found. Ok (record (user_of h) { user_info = Some found })

  abbrev by_info_size : Held AC GC → SeenInfoRequest Key → SeenResponse → Bool → Meant (SeenSignedIn AC GC)
  by_info_size h ask r long = (login.TooLong place.UserInfoAnswer when long) >> by_info h (info_answer types ask.demand r)

  abbrev by_info_answer : Held AC GC → SeenInfoRequest Key → SeenAnswer → Meant (SeenSignedIn AC GC)
  by_info_answer h ask answer = (answer or login.UserInfo (info_error.Request tt)) >>= λ r. by_info_size h ask r (is_over_long r.body)

  info_sized : (h : Held AC GC) (ask : SeenInfoRequest Key) (request : SeenRequest) (r : SeenResponse) (long : Bool) → AsksInfo types a answers h ask request
      → first_answer (drop 1 answers) ≡ Some r → is_over_long r.body ≡ long → reply ≡ by_info_size h ask r long
  unfolding user_with_info
  info_sized h ask request r long asked came is =
      behind_info_request h ask request asked ∙ ap (by_info_answer h ask) came ∙ ap (by_info_size h ask r) is

  -- by what its response holds
  info_worth : (h : Held AC GC) (ask : SeenInfoRequest Key) (request : SeenRequest) (r : SeenResponse) (worth : Result (SeenUserInfoClaims AC GC) InfoRefusal)
      → AsksInfo types a answers h ask request → first_answer (drop 1 answers) ≡ Some r → is_over_long r.body ≡ false → info_answer types ask.demand r ≡ worth
      → reply ≡ by_info h worth
  info_worth h ask request r worth asked came short is = info_sized h ask request r false asked came short ∙ ap (by_info h) is

  refused_info : (e : InfoRefusal) → HasNoInfo types a answers e → reply ≡ Err (login.UserInfo e)
  refused_info e c =
      let x = c.answered in
      info_worth c.held c.ask x.request c.response (Err e) x.asked x.response_came x.not_too_long
      (unfound_back types c.ask (drop 1 answers) x.request x.asked.request_made c.response x.response_came e c.cause)

  found_reply : (h : Held AC GC) (found : SeenUserInfoClaims AC GC) → HoldsInfo types a answers h found → reply ≡ Ok (record (user_of h) { user_info = Some found })
  found_reply h found c =
      let x = c.answered in
      info_worth h c.ask x.request c.response (Ok found) x.asked x.response_came x.not_too_long
      (found_back types c.ask (drop 1 answers) x.request x.asked.request_made c.response x.response_came found c.info_held)

  -- ---- each row

  long_row : (at : TooLong) → TooLongCause types a answers at → reply ≡ Err (login.TooLong at)
  unfolding taken_login
  long_row place.Callback long = unopened _ (rw long refl)
  long_row place.TokenAnswer c = token_refused c.login c.request _ c.asked (next_sized c.login c.response true c.response_came c.too_long)
  long_row place.UserInfoAnswer c = info_sized c.held c.ask c.request c.response true c.asked c.response_came c.too_long

  token_row : (e : TokenError) → TokenCause types a answers e → reply ≡ Err (login.Token e)
  unfolding taken_login_by user_of_answer
  token_row (token_error.Other other.Uri) c =
      let h = c.has_code in
      unopened _ (read_further h.names.short_query _ (rw (h.names.login_named, h.no_error, h.one_code, c.no_request) refl))
  token_row (token_error.Request cause) c = token_refused c.login c.request _ c.asked (rw c.no_response refl)
  token_row (token_error.TooLong body) c = absurd c
  token_row token_error.Memory c = absurd c
  token_row (token_error.Other other.EmptyBody) c = refused_tokens _ c
  token_row (token_error.Other other.MediaType) c = refused_tokens _ c
  token_row (token_error.ServerResponse error) c = refused_tokens _ c
  token_row (token_error.Parse refusal body) c = refused_tokens _ c

  address_row : HasNoInfoAddress types a answers → reply ≡ Err (login.UserInfo (info_error.Other info_other.Uri))
  address_row n =
      let d = n.demands in
      let same = own_token a.client d.demand n.held.tokens.access_token (subject_of n.held.token) n.ask d.own_ask in
      unmade_reply n.held n.ask prepare.Uri d (uri_back n.ask (ap is_visible_text same ∙ n.header_text) n.no_address)

  endpoint_row : LacksEndpoint types a answers → reply ≡ Err (login.UserInfo (info_error.Other info_other.Uri))
  endpoint_row n =
      behind_demand n.held n.fits n.demand n.demanded ∙ ap (asked_reply n.held) (asking_nowhere a.client n.demand (user_of n.held) n.no_endpoint)

  info_row : (e : InfoRefusal) → UserInfoCause types a answers e → reply ≡ Err (login.UserInfo e)
  unfolding user_with_info
  info_row (info_error.Other info_other.Bearer) c =
      let d = c.demands in
      let same = own_token a.client d.demand c.held.tokens.access_token (subject_of c.held.token) c.ask d.own_ask in
      unmade_reply c.held c.ask prepare.Bearer d (bearer_back c.ask (ap is_visible_text same ∙ c.no_header_text))
  info_row (info_error.Other info_other.Uri) c = ⊎_elim address_row endpoint_row c
  info_row (info_error.Request cause) c = behind_info_request c.held c.ask c.request c.asked ∙ rw c.no_response refl
  info_row (info_error.TooLong body) c = absurd c
  info_row info_error.Memory c = absurd c
  info_row (info_error.Other info_other.Utf8) c = refused_info _ c
  info_row (info_error.ClaimsVerification kind) c = refused_info _ c
  info_row (info_error.Parse refusal) c = refused_info _ c
  info_row (info_error.Response status body cause) c = refused_info _ c

  id_token_refused : (h : Held AC GC) (e : Error) → Holds types a answers h → next h.login ≡ Err e → reply ≡ Err e
  id_token_refused h e holds is = token_refused h.login holds.reads.answered.request e holds.reads.answered.asked is

  -- a cause has its refusal
  pub refused : (e : Error) → Cause types a answers e → reply ≡ Err e
  unfolding taken_login_by
  refused (login.TooLong at) c = long_row at c
  refused login.State c = unopened _ (read_further c.short_query _ (rw c.none_named refl))
  refused (login.Provider code) c = unopened _ (read_further c.names.short_query _ (rw (c.names.login_named, c.first_error) refl))
  refused login.Callback c = unopened _ (read_further c.names.short_query _ (rw (c.names.login_named, c.no_error, c.not_one_code) refl))
  refused (login.Token e) c = token_row e c
  refused login.NoIdToken c =
      let x = c.reads.answered in
      token_refused c.login x.request _ x.asked (next_tokens c.login c.tokens c.reads ∙ ap (by_id_token c.login c.tokens) c.no_id_token)
  refused (login.Claims kind) c = id_token_refused c.held _ c.holds (next_id_token c.held (Some kind) c.holds c.check_failed)
  refused (login.Signing refusal) c =
      let x = c.names_hash.accepted in
      id_token_refused c.held (login.Signing refusal) x.holds
      (claimed c.held x (Some c.claim) None c.names_hash.own_claim c.no_hash ∙ ap (λ e. Err (login.Signing e)) (sym c.names_algorithm))
  refused login.TokenHash c =
      let x = c.names_hash.accepted in
      id_token_refused c.held login.TokenHash x.holds
      (claimed c.held x (Some c.claim) (Some c.hash) c.names_hash.own_claim c.has_hash ∙ ap (by_claim c.held) (other_claim c.claim c.hash c.other))
  refused (login.UserInfo e) c = info_row e c
  refused (login.Memory spent) c = absurd c

  -- what signs in is an Ok
  with_info : (h : Held AC GC) (found : Option (SeenUserInfoClaims AC GC)) → Fits types a answers h → HasInfo types a answers h found
      → reply ≡ Ok (record (user_of h) { user_info = found })
  with_info h None fits none = behind_hash h fits ∙ ap (λ d. (demand_run types a.client d (user_of h) (drop 1 answers)).reply) none
  with_info h (Some found) fits holds = found_reply h found holds

  pub signs_in : (signed : SeenSignedIn AC GC) → IsSignedIn types a answers signed → reply ≡ Ok signed
  signs_in signed is =
      let x : Accepted types a answers is.held = record { holds = is.holds; accepts = is.accepted } in
      with_info is.held signed.user_info (record { accepted = x; fits_hash = is.fits_hash }) is.info
      ∙ ap Ok (λ i. record { id_token = sym is.own_id_token i; access_token = sym is.own_access_token i; refresh_token = sym is.own_refresh_token i; user_info = signed.user_info })
