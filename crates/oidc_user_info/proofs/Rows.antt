-- What each reply to a request for user info rests on, by the table, and back.
use Rattle.std.proofs.Common.{◌≡◌, ◌≢◌, ◌==◌, ℕ, Bool, true, false, List, Option, None, Some, refl, ap, ◌∙◌, inl, inr, arith}
use Rattle.std.specs.Prelude.{Result, Ok, Err, not, ◌⊎◌, if◌then◌else◌, codes}
use Rattle.std.specs.Str.{is_utf8}
use Rattle.http_header.specs.FieldValue.{is_visible_text, plain_value}
use Rattle.oidc_members.specs.declared.refusal.Refusal.{Refusal}
use Rattle.oidc_keys.specs.declared.refusals.SignatureVerificationError.TheVariants.{AmbiguousKeyId, CryptoError, DisallowedAlg, InvalidKey, NoMatchingKey, NoSignature, UnsupportedAlg, Memory as NoMemory}
use Rattle.oidc_oauth2.specs.Messages.{SeenRequest, SeenResponse, SeenAnswer}
use Rattle.oidc_oauth2.specs.HttpUtils.{may_be, bearer_of}
use Rattle.oidc_oauth2.specs.Requests.{is_address}
use Rattle.oidc_oauth2.specs.Transport.{first_answer}
use Rattle.oidc_oauth2.specs.Replies.{◌>>=◌, ◌>>◌, ◌when◌, ◌for◌, ◌or_as◌}
use Rattle.oidc_oauth2.specs.TokenAnswers.{is_over_long}
use Rattle.oidc_jwt.specs.Tokens.{SeenToken}
use Rattle.oidc_tokens.specs.UserInfoVerification.{is_expected_subject}
use Rattle.oidc_tokens.specs.declared.verification.refusals.ClaimsVerificationError.{ClaimsVerificationError}
use Rattle.oidc_tokens.specs.declared.verification.refusals.ClaimsVerificationError.TheVariants as claims
use Rattle.oidc_tokens.proofs.Theorems.{about, about_back, about_another, info_accepts, info_accepted, info_failure_cause, info_never_memory, info_never_memory_inside}
use Rattle.oidc_user_info.specs.UserInfoClaims.{SeenUserInfoClaims, parties_of}
use Rattle.oidc_user_info.specs.InfoErrors.{InfoRefusal, Meant}
use Rattle.oidc_user_info.specs.InfoAnswers.{Readers, claims_in, token_in, failure_of, accepted_claims, from_json, of_object, of_token, by_media_type, info_answer}
use Rattle.oidc_user_info.specs.InfoRequests.{SeenInfoRequest, get_with, info_request}
use Rattle.oidc_user_info.specs.InfoCauses.{IsAsked, HasNoAddress, Came, Fits, Succeeds, HoldsObject, HoldsToken, AllowsObject, HoldsText, HasOtherStatus, HasOtherType, HoldsNoText, IsTooLong, ReadsObject, ReadsToken, IsUserInfo, ObjectIsRefused, TokenIsRefused, ObjectFails, TokenFails, Cause}
use Rattle.oidc_user_info.specs.InfoRuns.{reply_of, run_of, reply}
use Rattle.oidc_user_info.specs.declared.errors.InfoOther.TheVariants as other
use Rattle.oidc_user_info.specs.declared.errors.PrepareInfoError.{PrepareInfoError}
use Rattle.oidc_user_info.specs.declared.errors.PrepareInfoError.TheVariants.{Bearer, Uri}
use Rattle.oidc_user_info.specs.declared.errors.ResponseCause.TheVariants.{Status, MediaType}
use Rattle.oidc_user_info.specs.declared.errors.UserInfoError.TheVariants.{ClaimsVerification, Parse, Request, Response, Other, TooLong, Memory}

equal : (n m : ℕ) → (n == m) ≡ true → n ≡ m
equal n m h = grind arith

apart : (n m : ℕ) → n ≢ m → (n == m) ≡ false
apart n m h = grind arith

about_none : (expected : Option (List ℕ)) (subject e : List ℕ) → expected ≡ Some e → subject ≢ e → (passes : Bool) → is_expected_subject expected subject ≡ passes → passes ≡ false
about_none expected subject e is another true passes = absurd (another (about expected subject passes e is))
about_none expected subject e is another false passes = refl

unequal : (n m : ℕ) → (n == m) ≡ false → n ≢ m
unequal n m h = grind arith

module _ {AC GC JE Key Use Algorithm Type' : Type 0} (r : Readers AC GC JE Key Use Algorithm Type') where
  -- no verdict of a key is want of memory
  abbrev pub NeverWants : Type 0
  NeverWants = (key : Key) (alg : Algorithm) (message made : List ℕ) → r.keys.keys.verdict key alg message made ≢ Err NoMemory

module _ {AC GC JE Key Use Algorithm Type' : Type 0} (r : Readers AC GC JE Key Use Algorithm Type') (ask : SeenInfoRequest Key) (answers : List SeenAnswer) where
  abbrev Claims : Type 0
  Claims = SeenUserInfoClaims AC GC

  -- what a reply rests on
  abbrev pub Rests : Meant Claims → Type 0
  Rests (Ok found) = IsUserInfo ask answers r found
  Rests (Err e) = Cause ask answers r e

  -- ---- checks that fail, of an object or of a token

  abbrev Fails : ClaimsVerificationError → Type 0
  Fails kind = ObjectFails ask answers r kind ⊎ TokenFails ask answers r kind

  as_cause : (kind : ClaimsVerificationError) → kind ≢ claims.Memory → kind ≢ claims.SignatureVerification NoMemory → Fails kind → Cause ask answers r (ClaimsVerification kind)
  as_cause claims.Unsupported own inside fails = fails
  as_cause claims.InvalidIssuer own inside fails = fails
  as_cause claims.InvalidAudience own inside fails = fails
  as_cause (claims.SignatureVerification AmbiguousKeyId) own inside fails = fails
  as_cause (claims.SignatureVerification CryptoError) own inside fails = fails
  as_cause (claims.SignatureVerification DisallowedAlg) own inside fails = fails
  as_cause (claims.SignatureVerification InvalidKey) own inside fails = fails
  as_cause (claims.SignatureVerification NoMatchingKey) own inside fails = fails
  as_cause (claims.SignatureVerification NoSignature) own inside fails = fails
  as_cause (claims.SignatureVerification UnsupportedAlg) own inside fails = fails
  as_cause claims.Expired own inside fails = fails
  as_cause claims.InvalidNonce own inside fails = fails
  as_cause claims.InvalidSubject own inside fails = fails
  as_cause (claims.SignatureVerification NoMemory) own inside fails = absurd (inside refl)
  as_cause claims.Memory own inside fails = absurd (own refl)

  of_cause : (kind : ClaimsVerificationError) → Cause ask answers r (ClaimsVerification kind) → Fails kind
  of_cause claims.Unsupported cause = cause
  of_cause claims.InvalidIssuer cause = cause
  of_cause claims.InvalidAudience cause = cause
  of_cause (claims.SignatureVerification AmbiguousKeyId) cause = cause
  of_cause (claims.SignatureVerification CryptoError) cause = cause
  of_cause (claims.SignatureVerification DisallowedAlg) cause = cause
  of_cause (claims.SignatureVerification InvalidKey) cause = cause
  of_cause (claims.SignatureVerification NoMatchingKey) cause = cause
  of_cause (claims.SignatureVerification NoSignature) cause = cause
  of_cause (claims.SignatureVerification UnsupportedAlg) cause = cause
  of_cause claims.Expired cause = cause
  of_cause claims.InvalidNonce cause = cause
  of_cause claims.InvalidSubject cause = cause
  of_cause (claims.SignatureVerification NoMemory) cause = absurd cause
  of_cause claims.Memory cause = absurd cause

  -- ---- from the table

  about_rests : (found : Claims) → ReadsObject ask answers r found → (expected : Bool) → is_expected_subject ask.demand.verifier.expected_subject found.standard_claims.subject ≡ expected
      → Rests ((ClaimsVerification claims.InvalidSubject when not expected) >> Ok found)
  about_rests found reads true is = inl (record { reads = reads; about = about ask.demand.verifier.expected_subject found.standard_claims.subject is })
  about_rests found reads false is =
      let another = about_another ask.demand.verifier.expected_subject found.standard_claims.subject is in
      inl (record { found = found; reads = reads; expected = another.0; is_expected = another.1; another = another.2 })

  read_rests : (body : List ℕ) → AllowsObject ask answers body → (read : Result Claims Refusal) → claims_in r.additional r.gender ask.demand.reading body ≡ read
      → Rests ((read or_as Parse) >>= λ found. (ClaimsVerification claims.InvalidSubject when not (is_expected_subject ask.demand.verifier.expected_subject found.standard_claims.subject)) >> Ok found)
  read_rests body allows (Ok found) is = about_rests found (record { body = body; allows = allows; read = is }) (is_expected_subject ask.demand.verifier.expected_subject found.standard_claims.subject) refl
  read_rests body allows (Err refusal) is = inl (record { body = body; allows = allows; refused = is })

  json_rests : (body : List ℕ) → AllowsObject ask answers body → Rests (from_json r.additional r.gender ask.demand.reading ask.demand.verifier.expected_subject body)
  unfolding from_json
  json_rests body allows = read_rests body allows (claims_in r.additional r.gender ask.demand.reading body) refl

  signed_rests : (body : List ℕ) → HoldsObject ask answers body → (signed : Bool) → ask.demand.signed ≡ signed
      → Rests ((ClaimsVerification (claims.SignatureVerification NoSignature) when signed) >> from_json r.additional r.gender ask.demand.reading ask.demand.verifier.expected_subject body)
  signed_rests body holds true is = inl (record { body = body; holds = holds; signature_asked = is })
  signed_rests body holds false is = json_rests body (record { holds = holds; unsigned_allowed = is })

  object_rests : (body : List ℕ) → HoldsObject ask answers body → Rests (of_object r.additional r.gender ask.demand body)
  unfolding of_object
  object_rests body holds = signed_rests body holds ask.demand.signed refl

  -- where no verdict of a key is want of memory
  module _ (never : NeverWants r) where
    failure_rests : (token : SeenToken JE Algorithm Claims) → ReadsToken ask answers r token → (failure : Option ClaimsVerificationError) → failure_of r ask.demand.verifier token ≡ failure
        → Rests ((ClaimsVerification for failure) >> Ok token.payload)
    failure_rests token reads None is = inr (record { token = token; reads = reads; accepts = info_accepts r.keys ask.demand.verifier token (parties_of token.payload) is; own_claims = refl })
    failure_rests token reads (Some kind) is =
        let parties = parties_of token.payload in
        as_cause kind (λ own. info_never_memory r.keys ask.demand.verifier token parties (is ∙ ap Some own))
        (λ inside. info_never_memory_inside r.keys never ask.demand.verifier token parties (is ∙ ap Some inside))
        (inr (record { token = token; reads = reads; check_failed = is; cause = info_failure_cause r.keys ask.demand.verifier token parties kind is }))

    token_rests : (body : List ℕ) → HoldsText ask answers body → (read : Result (SeenToken JE Algorithm Claims) Refusal) → token_in r ask.demand.reading body ≡ read
        → Rests ((read or_as Parse) >>= accepted_claims r ask.demand.verifier)
    token_rests body holds (Ok token) is = failure_rests token (record { body = body; holds = holds; read = is }) (failure_of r ask.demand.verifier token) refl
    token_rests body holds (Err refusal) is = inr (record { body = body; holds = holds; refused = is })

    text_rests : (body : List ℕ) → HoldsToken ask answers body → (text : Bool) → is_utf8 body ≡ text
        → Rests ((Other other.Utf8 when not text) >> ((token_in r ask.demand.reading body or_as Parse) >>= accepted_claims r ask.demand.verifier))
    text_rests body holds true is = token_rests body (record { holds = holds; text = is }) (token_in r ask.demand.reading body) refl
    text_rests body holds false is = record { body = body; holds = holds; no_text = is }

    of_token_rests : (body : List ℕ) → HoldsToken ask answers body → Rests (of_token r ask.demand.reading ask.demand.verifier body)
    unfolding of_token
    of_token_rests body holds = text_rests body holds (is_utf8 body) refl

    module _ (response : SeenResponse) where
      abbrev json : Bool
      json = may_be response.content_type (codes "application/json")

      abbrev jwt : Bool
      jwt = may_be response.content_type (codes "application/jwt")

      type_rests : Succeeds ask answers response → (is_json is_jwt : Bool) → json ≡ is_json → jwt ≡ is_jwt
          → Rests (if is_json then of_object r.additional r.gender ask.demand response.body else if is_jwt then of_token r ask.demand.reading ask.demand.verifier response.body else Err (Response response.status response.body MediaType))
      type_rests succeeds true is_jwt j w = object_rests response.body (record { response = response; succeeds = succeeds; json = j; own_body = refl })
      type_rests succeeds false true j w = of_token_rests response.body (record { response = response; succeeds = succeeds; no_json = j; jwt = w; own_body = refl })
      type_rests succeeds false false j w = record { response = response; succeeds = succeeds; no_json = j; no_jwt = w; own_status = refl; own_body = refl }

      media_rests : Succeeds ask answers response → Rests (by_media_type r ask.demand response)
      unfolding by_media_type
      media_rests succeeds = type_rests succeeds json jwt refl refl

      status_rests : Fits ask answers response → (success : Bool) → (response.status == 200) ≡ success → Rests ((Response response.status response.body Status when not success) >> by_media_type r ask.demand response)
      status_rests fits true is = media_rests (record { fits = fits; success = equal response.status 200 is })
      status_rests fits false is = record { response = response; fits = fits; no_success = unequal response.status 200 is; own_status = refl; own_body = refl }

      size_rests : Came ask answers response → (long : Bool) → is_over_long response.body ≡ long
          → Rests ((TooLong response.body when long) >> ((Response response.status response.body Status when not (response.status == 200)) >> by_media_type r ask.demand response))
      size_rests came true is = record { response = response; came = came; too_long = is; own_body = refl }
      size_rests came false is = status_rests (record { came = came; not_too_long = is }) (response.status == 200) refl

      response_rests : Came ask answers response → Rests (info_answer r ask.demand response)
      unfolding info_answer
      response_rests came = size_rests came (is_over_long response.body) refl

    answer_rests : IsAsked ask → (answer : SeenAnswer) → first_answer answers ≡ answer → Rests (reply_of r ask.demand answer)
    answer_rests asked None is = record { asked = asked; no_response = is }
    answer_rests asked (Some response) is = response_rests response (record { asked = asked; response_came = is })

    asked_rests : (visible fits : Bool) → is_visible_text ask.access_token ≡ visible → is_address ask.address ≡ fits → (request : SeenRequest)
        → Rests (run_of r ask.demand ((Bearer when not visible) >> ((Uri when not fits) >> Ok request)) answers).reply
    asked_rests false fits v f request = v
    asked_rests true false v f request = record { token_fits = v; no_address = f }
    asked_rests true true v f request = answer_rests (record { token_fits = v; address_fits = f }) (first_answer answers) refl

    -- every reply of the table rests on its cause
    pub rests : Rests (reply r ask answers)
    unfolding info_request
    rests = asked_rests (is_visible_text ask.access_token) (is_address ask.address) refl refl _

  -- ---- to the table

  abbrev Replies : Meant Claims → Type 0
  Replies meant = reply r ask answers ≡ meant

  -- by what is known of the token and the address
  made_by : (visible fits : Bool) → is_visible_text ask.access_token ≡ visible → is_address ask.address ≡ fits
      → info_request ask ≡ ((Bearer when not visible) >> ((Uri when not fits) >> Ok (get_with ask.address ask.response_type (plain_value (bearer_of ask.access_token)))))
  unfolding info_request
  made_by visible fits v f =
      λ i. (Bearer when not (v i)) >> ((Uri when not (f i)) >> Ok (get_with ask.address ask.response_type (plain_value (bearer_of ask.access_token))))

  abbrev reply_where : Result SeenRequest PrepareInfoError → Meant Claims
  reply_where made = (run_of r ask.demand made answers).reply

  asked_reply : IsAsked ask → Replies (reply_of r ask.demand (first_answer answers))
  asked_reply asked = ap reply_where (made_by true true asked.token_fits asked.address_fits)

  came_reply : (response : SeenResponse) → Came ask answers response → Replies (info_answer r ask.demand response)
  came_reply response came = asked_reply came.asked ∙ ap (reply_of r ask.demand) came.response_came

  fits_reply : (response : SeenResponse) → Fits ask answers response → Replies ((Response response.status response.body Status when not (response.status == 200)) >> by_media_type r ask.demand response)
  unfolding info_answer
  fits_reply response fits = came_reply response fits.came ∙ ap (λ long. (TooLong response.body when long) >> ((Response response.status response.body Status when not (response.status == 200)) >> by_media_type r ask.demand response)) fits.not_too_long

  succeeds_reply : (response : SeenResponse) → Succeeds ask answers response → Replies (by_media_type r ask.demand response)
  succeeds_reply response succeeds =
      fits_reply response succeeds.fits
      ∙ ap (λ n. (Response response.status response.body Status when not (n == 200)) >> by_media_type r ask.demand response) succeeds.success

  object_reply : (body : List ℕ) → HoldsObject ask answers body → Replies (of_object r.additional r.gender ask.demand body)
  unfolding by_media_type
  object_reply body holds = succeeds_reply holds.response holds.succeeds ∙ rw holds.json (ap (of_object r.additional r.gender ask.demand) holds.own_body)

  token_reply : (body : List ℕ) → HoldsToken ask answers body → Replies (of_token r ask.demand.reading ask.demand.verifier body)
  unfolding by_media_type
  token_reply body holds = succeeds_reply holds.response holds.succeeds ∙ rw (holds.no_json, holds.jwt) (ap (of_token r ask.demand.reading ask.demand.verifier) holds.own_body)

  allows_reply : (body : List ℕ) → AllowsObject ask answers body → Replies (from_json r.additional r.gender ask.demand.reading ask.demand.verifier.expected_subject body)
  unfolding of_object
  allows_reply body allows = object_reply body allows.holds ∙ rw allows.unsigned_allowed refl

  text_reply : (body : List ℕ) → HoldsText ask answers body → Replies ((token_in r ask.demand.reading body or_as Parse) >>= accepted_claims r ask.demand.verifier)
  unfolding of_token
  text_reply body holds = token_reply body holds.holds ∙ rw holds.text refl

  reads_object_reply : (found : Claims) → ReadsObject ask answers r found
      → Replies ((ClaimsVerification claims.InvalidSubject when not (is_expected_subject ask.demand.verifier.expected_subject found.standard_claims.subject)) >> Ok found)
  unfolding from_json
  reads_object_reply found reads = allows_reply reads.body reads.allows ∙ rw reads.read refl

  reads_token_reply : (token : SeenToken JE Algorithm Claims) → ReadsToken ask answers r token → Replies (accepted_claims r ask.demand.verifier token)
  reads_token_reply token reads = text_reply reads.body reads.holds ∙ rw reads.read refl

  -- claims that the answer holds are the reply
  pub holds_reply : (found : Claims) → IsUserInfo ask answers r found → Replies (Ok found)
  holds_reply found held =
      elim held [
        | inl object ↦ reads_object_reply found object.reads ∙ rw (about_back ask.demand.verifier.expected_subject found.standard_claims.subject object.about) refl
        | inr token ↦
            reads_token_reply token.token token.reads
            ∙ rw (info_accepted r.keys ask.demand.verifier token.token (parties_of token.token.payload) token.accepts) (ap Ok token.own_claims)
      ]

  object_fails_reply : (kind : ClaimsVerificationError) → ObjectFails ask answers r kind → Replies (Err (ClaimsVerification kind))
  unfolding of_object
  object_fails_reply (claims.SignatureVerification NoSignature) lacks = object_reply lacks.body lacks.holds ∙ rw lacks.signature_asked refl
  object_fails_reply claims.InvalidSubject another =
      let v = ask.demand.verifier.expected_subject in
      let subject = another.found.standard_claims.subject in
      reads_object_reply another.found another.reads
      ∙ ap (λ expected. (ClaimsVerification claims.InvalidSubject when not expected) >> Ok another.found) (about_none v subject another.expected another.is_expected another.another (is_expected_subject v subject) refl)
  object_fails_reply (claims.SignatureVerification AmbiguousKeyId) fails = absurd fails
  object_fails_reply (claims.SignatureVerification CryptoError) fails = absurd fails
  object_fails_reply (claims.SignatureVerification DisallowedAlg) fails = absurd fails
  object_fails_reply (claims.SignatureVerification InvalidKey) fails = absurd fails
  object_fails_reply (claims.SignatureVerification NoMatchingKey) fails = absurd fails
  object_fails_reply (claims.SignatureVerification UnsupportedAlg) fails = absurd fails
  object_fails_reply (claims.SignatureVerification NoMemory) fails = absurd fails
  object_fails_reply claims.Unsupported fails = absurd fails
  object_fails_reply claims.InvalidIssuer fails = absurd fails
  object_fails_reply claims.InvalidAudience fails = absurd fails
  object_fails_reply claims.Expired fails = absurd fails
  object_fails_reply claims.InvalidNonce fails = absurd fails
  object_fails_reply claims.Memory fails = absurd fails

  token_fails_reply : (kind : ClaimsVerificationError) → TokenFails ask answers r kind → Replies (Err (ClaimsVerification kind))
  token_fails_reply kind fails = reads_token_reply fails.token fails.reads ∙ rw fails.check_failed refl

  object_refused_reply : (refusal : Refusal) → ObjectIsRefused ask answers r refusal → Replies (Err (Parse refusal))
  unfolding from_json
  object_refused_reply refusal is = allows_reply is.body is.allows ∙ rw is.refused refl

  token_refused_reply : (refusal : Refusal) → TokenIsRefused ask answers r refusal → Replies (Err (Parse refusal))
  token_refused_reply refusal is = text_reply is.body is.holds ∙ rw is.refused refl

  bearer_reply : is_visible_text ask.access_token ≡ false → Replies (Err (Other other.Bearer))
  bearer_reply is = ap reply_where (made_by false (is_address ask.address) is refl)

  uri_reply : HasNoAddress ask → Replies (Err (Other other.Uri))
  uri_reply is = ap reply_where (made_by true false is.token_fits is.no_address)

  long_reply : (body : List ℕ) → IsTooLong ask answers body → Replies (Err (TooLong body))
  unfolding info_answer
  long_reply body is = came_reply is.response is.came ∙ rw is.too_long (ap (λ b. Err (TooLong b)) is.own_body)

  status_reply : (status : ℕ) (body : List ℕ) → HasOtherStatus ask answers status body → Replies (Err (Response status body Status))
  status_reply status body is =
      fits_reply is.response is.fits
      ∙ ap (λ success. (Response is.response.status is.response.body Status when not success) >> by_media_type r ask.demand is.response) (apart is.response.status 200 is.no_success)
      ∙ (λ i. Err (Response (is.own_status i) (is.own_body i) Status))

  type_reply : (status : ℕ) (body : List ℕ) → HasOtherType ask answers status body → Replies (Err (Response status body MediaType))
  unfolding by_media_type
  type_reply status body is = succeeds_reply is.response is.succeeds ∙ rw (is.no_json, is.no_jwt) (λ i. Err (Response (is.own_status i) (is.own_body i) MediaType))

  utf8_reply : HoldsNoText ask answers → Replies (Err (Other other.Utf8))
  unfolding of_token
  utf8_reply is = token_reply is.body is.holds ∙ rw is.no_text refl

  -- a refusal that has its cause is the reply
  pub refused_reply : (e : InfoRefusal) → Cause ask answers r e → Replies (Err e)
  refused_reply (ClaimsVerification kind) cause = elim (of_cause kind cause) [ inl object ↦ object_fails_reply kind object | inr token ↦ token_fails_reply kind token ]
  refused_reply (Parse refusal) cause = elim cause [ inl object ↦ object_refused_reply refusal object | inr token ↦ token_refused_reply refusal token ]
  refused_reply (Request u) cause = asked_reply cause.asked ∙ ap (reply_of r ask.demand) cause.no_response
  refused_reply (Response status body Status) cause = status_reply status body cause
  refused_reply (Response status body MediaType) cause = type_reply status body cause
  refused_reply (Other other.Bearer) cause = bearer_reply cause
  refused_reply (Other other.Uri) cause = uri_reply cause
  refused_reply (Other other.Utf8) cause = utf8_reply cause
  refused_reply (TooLong body) cause = long_reply body cause
  refused_reply Memory cause = absurd cause
