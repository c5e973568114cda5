-- A login over a provider that behaves signs in with what was granted.
use Rattle.std.proofs.Common.{◌≡◌, ℕ, List, [], ◌∷◌, drop, Bool, true, false, ◌&&◌, cond, Option, None, Some, Ok, Err, refl, ap, sym, ◌∙◌, ⊎_elim}
use Rattle.std.specs.Prelude.{codes, is_some, option_map, option_and_then}
use Rattle.std.specs.Option.{ok_or}
use Rattle.std.specs.FinMap as finite
use Rattle.std.specs.Str.{bytes_eq}
use Rattle.url.specs.Parts.{serialize}
use Rattle.oidc_types.specs.{TextAndUrl, signing_text}
use Rattle.oidc_types.specs.declared.signing_error.SigningError.TheVariants.{UnsupportedAlg}
use Rattle.oidc_oauth2.specs.Messages.{SeenRequest, SeenResponse, SeenAnswer}
use Rattle.oidc_oauth2.specs.HttpUtils.{essence}
use Rattle.oidc_oauth2.specs.Transport.{first_answer}
use Rattle.oidc_oauth2.specs.Requests.{code_request}
use Rattle.oidc_oauth2.specs.TokenAnswers.{is_over_long, may_be_json}
use Rattle.oidc_oauth2.specs.declared.client_auth.AuthType.{AuthType}
use Rattle.oidc_oauth2.specs.Replies.{◌>>◌, ◌when◌}
use Rattle.oidc_tokens.proofs.Theorems.{none_fails}
use Rattle.oidc_user_info.specs.UserInfoClaims.{SeenUserInfoClaims}
use Rattle.oidc_user_info.specs.InfoAnswers.{info_answer, by_media_type, of_object, from_json}
use Rattle.oidc_user_info.specs.InfoRequests as info
use Rattle.oidc_user_info.specs.InfoRequests.{SeenInfoRequest}
use Rattle.oidc_client.specs.Client.{info_request_at}
use Rattle.oidc_login.specs.Types.{SiteTypes}
use Rattle.oidc_login.specs.Logins.{SeenLogin}
use Rattle.oidc_login.specs.BeforeRequest.{token_request, request_to}
use Rattle.oidc_login.specs.Token.{SeenIdToken, Tokens, tokens_or_refusal, subject_of, verifier_of, failure_for, is_sent, claimed_hash, hash_beside, refusal_of_claim, claims_another}
use Rattle.oidc_login.specs.UserInfo.{demanded, info_ask}
use Rattle.oidc_login.specs.SignedIn.{SeenSignedIn, signed_by, with_user_info}
use Rattle.oidc_login.specs.Callback.{Attempt, Meant, SeenTaken, SeenPreparedInfo, LoginRun, taken_login, user_of_answer, prepared_info, user_with_info, demand_run, outcome, ◌passed_to◌, ◌answered_by◌, replied}
use Rattle.oidc_login.specs.declared.types.UserInfoDemand.{UserInfoDemand}
use Rattle.oidc_login.specs.declared.errors.TooLong.TheVariants as place
use Rattle.oidc_login.specs.declared.errors.LoginError.TheVariants as login_error
use Rattle.oidc_login.proofs.TokenHash.{beside, own_claim}
use Rattle.oidc_login.proofs.Answers.{tokens_back}
use Rattle.oidc_provider.specs.Grants.{SeenGrant}
use Rattle.oidc_provider.specs.Provider.{SeenProvider}
use Rattle.oidc_provider.specs.Issuing.{tokens}
use Rattle.oidc_provider.specs.Answers.{json, tokens_of, user_info_of, provider_answer, after, served}
use Rattle.oidc_provider.specs.Honest.{HoldsInfo, IsHonest, user_by, honest_reply, HonestSignsIn}
use Rattle.oidc_provider.proofs.Served as serves
use Rattle.oidc_provider.proofs.Registered.{equal_texts}

-- the media type of each response with a body
json_type : (status : ℕ) (body : List ℕ) → may_be_json (json status body) ≡ true
unfolding essence
json_type status body = refl

module _ {AC GC Key Use : Type 0} (types : SiteTypes AC GC Key Use) (p : SeenProvider) (a : Attempt Key) (g : SeenGrant) (login : SeenLogin)
    (id_token : SeenIdToken AC GC) (found : SeenUserInfoClaims AC GC) (h : IsHonest types p a g login id_token found) where
  -- ---- the token request

  abbrev endpoint : TextAndUrl
  endpoint = h.knows.endpoint

  abbrev redirect : List ℕ
  redirect = h.granted.redirect.text

  abbrev kind : AuthType
  kind = a.client.auth_type

  abbrev first_request : SeenRequest
  first_request = serves.token_request p g h.client kind (serialize endpoint.url) login.verifier redirect

  same_request : request_to endpoint a.client login g.code ≡ serves.request_by a.client.reading kind (serialize endpoint.url) h.client.client_id h.client.secret g.code login.verifier redirect
  same_request = λ i. record {
    address = serialize endpoint.url;
    client = record { client_id = h.knows.own_id i; client_secret = h.knows.own_secret i; auth_type = kind };
    code = g.code;
    verifier = Some login.verifier;
    redirect_uri = option_map (λ u. u.text) (h.granted.own_redirect i);
    extra = [];
    reading = a.client.reading;
  }

  request_made : token_request a.client login g.code ≡ Some first_request
  unfolding token_request code_request
  request_made =
      ap (λ o. option_and_then (λ e. code_request (request_to e a.client login g.code)) o) h.knows.own_endpoint
      ∙ ap code_request same_request
      ∙ ap (λ b. cond b (Some first_request) None) h.knows.address

  abbrev named : List (List ℕ × List ℕ)
  named = (codes "code", g.code) ∷ (codes "state", h.names.state) ∷ []

  taken : is_over_long a.query ≡ false → taken_login a.client a.pending a.query ≡ Ok (record { login = login; request = first_request })
  unfolding taken_login
  taken short = rw (short, h.names.query, h.names.pending, request_made) refl

  taken_too_long : is_over_long a.query ≡ true → taken_login a.client a.pending a.query ≡ Err (login_error.TooLong place.Callback)
  unfolding taken_login
  taken_too_long long = rw long refl

  -- ---- the answer to it

  abbrev first_response : SeenResponse
  first_response = json 200 g.token_body

  abbrev own_tokens : Tokens AC GC
  own_tokens = tokens g.token id_token

  tokens_held : tokens_or_refusal types a.client.reading first_response ≡ Ok own_tokens
  tokens_held =
      tokens_back types a.client.reading first_response own_tokens
      (record { holds = record { success = refl; json = json_type 200 g.token_body; some_body = h.holds.some_body }; read = h.holds.read })

  no_failure : failure_for types a.client login.nonce a.now id_token ≡ None
  no_failure = (none_fails types.keys (verifier_of types a.client) (is_sent login.nonce) a.now id_token).1 h.holds.accepted

  hash_found : (claim : List ℕ) → claimed_hash id_token ≡ Some claim
      → hash_beside types (verifier_of types a.client) id_token g.token ≡ Ok claim
  hash_found claim is =
      beside types (verifier_of types a.client) id_token h.holds.accepted.alg h.holds.accepted.key h.holds.accepted.signed h.holds.accepted.chosen g.token
      ∙ ap (λ o. ok_or o (UnsupportedAlg (signing_text h.holds.accepted.alg))) (h.holds.fits_hash claim is)

  no_refusal : (o : Option (List ℕ)) → claimed_hash id_token ≡ o → refusal_of_claim o (hash_beside types (verifier_of types a.client) id_token g.token) ≡ None
  no_refusal None is = refl
  no_refusal (Some claim) is = ap (λ r. refusal_of_claim (Some claim) r) (hash_found claim is)

  no_other : (o : Option (List ℕ)) → claimed_hash id_token ≡ o → claims_another o (hash_beside types (verifier_of types a.client) id_token g.token) ≡ false
  no_other None is = refl
  no_other (Some claim) is = ap (λ r. claims_another (Some claim) r) (hash_found claim is) ∙ own_claim claim

  abbrev user : SeenSignedIn AC GC
  user = signed_by id_token own_tokens

  user_found : is_over_long g.token_body ≡ false → user_of_answer types a.client a.now login (Some first_response) ≡ Ok user
  unfolding user_of_answer
  user_found short =
      rw (short, tokens_held, no_failure, no_refusal (claimed_hash id_token) refl, no_other (claimed_hash id_token) refl) refl

  user_too_long : is_over_long g.token_body ≡ true → user_of_answer types a.client a.now login (Some first_response) ≡ Err (login_error.TooLong place.TokenAnswer)
  unfolding user_of_answer
  user_too_long long = rw long refl

  -- ---- the request for user info, and the answer to it

  module _ (demand : UserInfoDemand) (i : HoldsInfo types p a g id_token demand found) where
    abbrev ask : SeenInfoRequest Key
    ask = demanded demand (info_request_at a.client g.token (Some (subject_of id_token)) i.endpoint)

    abbrev second_request : SeenRequest
    second_request = serves.info_request p g i.endpoint.text demand.response_type g.token g.code

    abbrev prepared : SeenPreparedInfo Key
    prepared = record { ask = ask; request = second_request }

    own_ask : info_ask a.client demand g.token (subject_of id_token) ≡ Some ask
    own_ask = ap (λ o. option_map (λ e. demanded demand (info_request_at a.client g.token (Some (subject_of id_token)) e)) o) i.own_endpoint

    ask_made : info.info_request ask ≡ Ok second_request
    unfolding info.info_request
    ask_made = rw (h.granted.header_text, i.address) refl

    prepared_found : prepared_info a.client demand user ≡ Ok prepared
    unfolding prepared_info
    prepared_found = rw (own_ask, ask_made) refl

    abbrev second_response : SeenResponse
    second_response = json 200 g.info_body

    about : bytes_eq found.standard_claims.subject (subject_of id_token) ≡ true
    about = equal_texts found.standard_claims.subject (subject_of id_token) i.about

    object_read : of_object types.additional types.gender ask.demand g.info_body ≡ Ok found
    unfolding of_object from_json
    object_read = rw (i.unsigned_allowed, i.read, about) refl

    by_type : by_media_type types ask.demand second_response ≡ Ok found
    unfolding by_media_type
    by_type = rw (json_type 200 g.info_body) object_read

    info_found : is_over_long g.info_body ≡ false → user_with_info types ask.demand user (Some second_response) ≡ Ok (with_user_info user found)
    unfolding user_with_info info_answer
    info_found short = rw (short, by_type) refl

    info_too_long : is_over_long g.info_body ≡ true → user_with_info types ask.demand user (Some second_response) ≡ Err (login_error.TooLong place.UserInfoAnswer)
    unfolding user_with_info
    info_too_long long = rw long refl

  -- ---- the provider

  first_served : provider_answer p first_request ≡ tokens_of g
  first_served =
      serves.token_served p g h.client kind (serialize endpoint.url) login.verifier redirect h.texts.id_text h.texts.secret_text h.texts.code_text h.texts.verifier_text
      h.texts.redirect_text h.knows.known h.granted.of_own_code h.granted.unredeemed h.granted.same_redirect h.granted.same_challenge h.knows.same_address

  abbrev p_then : SeenProvider
  p_then = after p first_request

  module _ (demand : UserInfoDemand) (i : HoldsInfo types p a g id_token demand found) where
    second_served : provider_answer p_then (second_request demand i) ≡ user_info_of (serves.now_redeemed p g first_request h.granted.of_own_code first_served)
    second_served =
        serves.info_served p_then (serves.now_redeemed p g first_request h.granted.of_own_code first_served) i.endpoint.text demand.response_type g.token g.code
        (ap (λ m. finite.get m g.token) (serves.codes_after p g first_request h.granted.of_own_code first_served) ∙ h.granted.of_own_token)
        (serves.code_after p g first_request h.granted.of_own_code first_served) refl h.granted.header_text i.same_address

  -- ---- the whole

  abbrev behind_answer : SeenAnswer → List SeenAnswer → LoginRun (SeenSignedIn AC GC)
  behind_answer answer later =
      (user_of_answer types a.client a.now login answer passed_to λ user. demand_run types a.client login.user_info user) later

  abbrev opened_run : List SeenAnswer → LoginRun (SeenSignedIn AC GC)
  opened_run answers = record {
    reply = (behind_answer (first_answer answers) (drop 1 answers)).reply;
    sent = first_request ∷ (behind_answer (first_answer answers) (drop 1 answers)).sent;
  }

  abbrev opened_by : Meant SeenTaken → List SeenAnswer → LoginRun (SeenSignedIn AC GC)
  opened_by meant answers =
      (meant passed_to λ taken.
      taken.request answered_by λ answer.
      user_of_answer types a.client a.now taken.login answer passed_to λ user.
      demand_run types a.client taken.login.user_info user) answers

  opened : is_over_long a.query ≡ false → (answers : List SeenAnswer) → outcome types a answers ≡ opened_run answers
  opened short answers = ap (λ meant. opened_by meant answers) (taken short)

  abbrev info_run : SeenAnswer → List SeenAnswer → LoginRun (SeenSignedIn AC GC)
  info_run answer later = demand_run types a.client login.user_info user later

  module _ (short : is_over_long a.query ≡ false) (answers : List SeenAnswer) (came : answers ≡ served p (outcome types a answers).sent) where
    came_first : answers ≡ served p (opened_run answers).sent
    came_first = came ∙ ap (λ run. served p run.sent) (opened short answers)

    first_came : first_answer answers ≡ Some first_response
    first_came = ap first_answer came_first ∙ ap (λ answer. Some answer.response) first_served

    abbrev later_sent : List SeenRequest
    later_sent = (behind_answer (Some first_response) (drop 1 answers)).sent

    later_came : drop 1 answers ≡ served p_then later_sent
    later_came =
        ap (drop 1) came_first
        ∙ ap (λ answer. served p_then (behind_answer answer (drop 1 answers)).sent) first_came

    abbrev whole : LoginRun (SeenSignedIn AC GC)
    whole = behind_answer (Some first_response) (drop 1 answers)

    reply_is : (outcome types a answers).reply ≡ whole.reply
    reply_is = ap (λ run. run.reply) (opened short answers) ∙ ap (λ answer. (behind_answer answer (drop 1 answers)).reply) first_came

    abbrev after_user : Meant (SeenSignedIn AC GC) → List SeenAnswer → LoginRun (SeenSignedIn AC GC)
    after_user meant later = (meant passed_to λ user. demand_run types a.client login.user_info user) later

    token_too_long : is_over_long g.token_body ≡ true → (outcome types a answers).reply ≡ Err (login_error.TooLong place.TokenAnswer)
    token_too_long long = reply_is ∙ ap (λ meant. (after_user meant (drop 1 answers)).reply) (user_too_long long)

    module _ (short_body : is_over_long g.token_body ≡ false) where
      whole_is : whole ≡ demand_run types a.client login.user_info user (drop 1 answers)
      whole_is = ap (λ meant. after_user meant (drop 1 answers)) (user_found short_body)

      without_info : login.user_info ≡ None → (outcome types a answers).reply ≡ Ok user
      without_info none =
          reply_is ∙ ap (λ run. run.reply) whole_is ∙ ap (λ o. (demand_run types a.client o user (drop 1 answers)).reply) none

      module _ (demand : UserInfoDemand) (is : login.user_info ≡ Some demand) (i : HoldsInfo types p a g id_token demand found) where
        abbrev asked_run : Meant (SeenPreparedInfo Key) → List SeenAnswer → LoginRun (SeenSignedIn AC GC)
        asked_run meant later =
            (meant passed_to λ prepared.
            prepared.request answered_by λ answer.
            replied (user_with_info types prepared.ask.demand user answer)) later

        whole_asks : whole ≡ asked_run (Ok (prepared demand i)) (drop 1 answers)
        whole_asks =
            whole_is ∙ ap (λ o. demand_run types a.client o user (drop 1 answers)) is
            ∙ ap (λ meant. asked_run meant (drop 1 answers)) (prepared_found demand i)

        second_came : first_answer (drop 1 answers) ≡ Some (second_response demand i)
        second_came =
            ap first_answer (later_came ∙ ap (λ run. served p_then run.sent) whole_asks)
            ∙ ap (λ answer. Some answer.response) (second_served demand i)

        reply_with : (outcome types a answers).reply ≡ user_with_info types (ask demand i).demand user (Some (second_response demand i))
        reply_with =
            reply_is ∙ ap (λ run. run.reply) whole_asks
            ∙ ap (λ answer. user_with_info types (ask demand i).demand user answer) second_came

  -- ---- by what is too long

  abbrev meant_by : Bool → Bool → Bool → Option UserInfoDemand → Meant (SeenSignedIn AC GC)
  meant_by query body info demand = do
    login_error.TooLong place.Callback when query
    login_error.TooLong place.TokenAnswer when body
    login_error.TooLong place.UserInfoAnswer when (is_some demand && info)
    Ok (user_by id_token g.token found demand)

  honest_is : honest_reply a g login id_token found ≡ meant_by (is_over_long a.query) (is_over_long g.token_body) (is_over_long g.info_body) login.user_info
  unfolding honest_reply
  honest_is = refl

  module _ (answers : List SeenAnswer) (came : answers ≡ served p (outcome types a answers).sent) where
    by_info : (short : is_over_long a.query ≡ false) (short_body : is_over_long g.token_body ≡ false) (long : Bool) → is_over_long g.info_body ≡ long
        → (demand : UserInfoDemand) (is : login.user_info ≡ Some demand) (i : HoldsInfo types p a g id_token demand found)
        → (outcome types a answers).reply ≡ meant_by false false long (Some demand)
    by_info short short_body true long demand is i = reply_with short answers came short_body demand is i ∙ info_too_long demand i long
    by_info short short_body false fits demand is i = reply_with short answers came short_body demand is i ∙ info_found demand i fits

    with_demand : (short : is_over_long a.query ≡ false) (short_body : is_over_long g.token_body ≡ false)
        → (demand : UserInfoDemand) × (login.user_info ≡ Some demand) × HoldsInfo types p a g id_token demand found
        → (outcome types a answers).reply ≡ meant_by false false (is_over_long g.info_body) login.user_info
    with_demand short short_body (demand, is, i) =
        by_info short short_body (is_over_long g.info_body) refl demand is i
        ∙ ap (λ o. meant_by false false (is_over_long g.info_body) o) (sym is)

    without_demand : (short : is_over_long a.query ≡ false) (short_body : is_over_long g.token_body ≡ false) → login.user_info ≡ None
        → (outcome types a answers).reply ≡ meant_by false false (is_over_long g.info_body) login.user_info
    without_demand short short_body none =
        without_info short answers came short_body none ∙ ap (λ o. meant_by false false (is_over_long g.info_body) o) (sym none)

    by_body : (short : is_over_long a.query ≡ false) (long : Bool) → is_over_long g.token_body ≡ long
        → (outcome types a answers).reply ≡ meant_by false long (is_over_long g.info_body) login.user_info
    by_body short true long = token_too_long short answers came long
    by_body short false fits = ⊎_elim (without_demand short fits) (with_demand short fits) h.info

    by_query : (long : Bool) → is_over_long a.query ≡ long
        → (outcome types a answers).reply ≡ meant_by long (is_over_long g.token_body) (is_over_long g.info_body) login.user_info
    by_query true long = ap (λ meant. (opened_by meant answers).reply) (taken_too_long long)
    by_query false short = by_body short (is_over_long g.token_body) refl

    pub signs_in : (outcome types a answers).reply ≡ honest_reply a g login id_token found
    signs_in = by_query (is_over_long a.query) refl ∙ sym honest_is

pub honest : {AC GC Key Use : Type 0} (types : SiteTypes AC GC Key Use) → HonestSignsIn types
honest types p a g login id_token found answers h came = signs_in types p a g login id_token found h answers came
