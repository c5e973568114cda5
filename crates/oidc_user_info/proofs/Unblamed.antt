-- A response is never worth a fault of the transport.
use Rattle.std.proofs.Common.{◌≡◌, ◌==◌, ℕ, List, Bool, true, false, cond, Option, None, Some, Result, Ok, Err, refl, subst}
use Rattle.std.specs.Prelude.{not, codes, IfErr}
use Rattle.std.specs.Str.{is_utf8}
use Rattle.oidc_members.specs.declared.refusal.Refusal.{Refusal}
use Rattle.oidc_keys.specs.declared.refusals.SignatureVerificationError.TheVariants.{NoSignature}
use Rattle.oidc_oauth2.specs.HttpUtils.{may_be}
use Rattle.oidc_oauth2.specs.Messages.{SeenResponse}
use Rattle.oidc_oauth2.specs.Replies.{◌>>=◌, ◌>>◌, ◌when◌, ◌for◌, ◌or_as◌, Gives}
use Rattle.oidc_oauth2.specs.TokenAnswers.{is_over_long}
use Rattle.oidc_jwt.specs.Tokens.{SeenToken}
use Rattle.oidc_tokens.specs.UserInfoVerification.{is_expected_subject}
use Rattle.oidc_tokens.specs.declared.verification.refusals.ClaimsVerificationError.{ClaimsVerificationError}
use Rattle.oidc_tokens.specs.declared.verification.refusals.ClaimsVerificationError.TheVariants as claims
use Rattle.oidc_user_info.specs.UserInfoClaims.{SeenUserInfoClaims}
use Rattle.oidc_user_info.specs.InfoErrors.{InfoRefusal, Meant, is_fault, info_errors}
use Rattle.oidc_user_info.specs.InfoAnswers.{Readers, Demand, claims_in, token_in, failure_of, accepted_claims, from_json, of_object, of_token, by_media_type, info_answer}
use Rattle.oidc_user_info.specs.declared.errors.InfoOther.TheVariants as other
use Rattle.oidc_user_info.specs.declared.errors.ResponseCause.TheVariants.{Status, MediaType}
use Rattle.oidc_user_info.specs.declared.errors.UserInfoError.{UserInfoError}
use Rattle.oidc_user_info.specs.declared.errors.UserInfoError.TheVariants.{ClaimsVerification, Parse, Request, Response, Other, TooLong, Memory}

module _ {AC GC JE Key Use Algorithm Type' : Type 0} (r : Readers AC GC JE Key Use Algorithm Type') (demand : Demand Key) where
  abbrev Claims : Type 0
  Claims = SeenUserInfoClaims AC GC

  -- no fault of the transport
  abbrev IsJudged : Meant Claims → Type 0
  IsJudged (Err (Request e)) = ⊥
  IsJudged meant = Unit {0}

  after_when : (e : InfoRefusal) (b : Bool) (next : Meant Claims) → IsJudged (Err e) → IsJudged next → IsJudged ((e when b) >> next)
  after_when e true next own later = own
  after_when e false next own later = later

  read_judged : (read : Result Claims Refusal)
      → IsJudged ((read or_as Parse) >>= λ found. (ClaimsVerification claims.InvalidSubject when not (is_expected_subject demand.verifier.expected_subject found.standard_claims.subject)) >> Ok found)
  read_judged (Ok found) = after_when (ClaimsVerification claims.InvalidSubject) (not (is_expected_subject demand.verifier.expected_subject found.standard_claims.subject)) (Ok found) tt tt
  read_judged (Err refusal) = tt

  json_judged : (body : List ℕ) → IsJudged (from_json r.additional r.gender demand.reading demand.verifier.expected_subject body)
  unfolding from_json
  json_judged body = read_judged (claims_in r.additional r.gender demand.reading body)

  object_judged : (body : List ℕ) → IsJudged (of_object r.additional r.gender demand body)
  unfolding of_object
  object_judged body = after_when (ClaimsVerification (claims.SignatureVerification NoSignature)) demand.signed (from_json r.additional r.gender demand.reading demand.verifier.expected_subject body) tt (json_judged body)

  failure_judged : (token : SeenToken JE Algorithm Claims) (failure : Option ClaimsVerificationError) → IsJudged ((ClaimsVerification for failure) >> Ok token.payload)
  failure_judged token None = tt
  failure_judged token (Some kind) = tt

  token_judged : (read : Result (SeenToken JE Algorithm Claims) Refusal) → IsJudged ((read or_as Parse) >>= accepted_claims r demand.verifier)
  token_judged (Ok token) = failure_judged token (failure_of r demand.verifier token)
  token_judged (Err refusal) = tt

  of_token_judged : (body : List ℕ) → IsJudged (of_token r demand.reading demand.verifier body)
  unfolding of_token
  of_token_judged body = after_when (Other other.Utf8) (not (is_utf8 body)) ((token_in r demand.reading body or_as Parse) >>= accepted_claims r demand.verifier) tt (token_judged (token_in r demand.reading body))

  either : (b : Bool) (x y : Meant Claims) → IsJudged x → IsJudged y → IsJudged (cond b x y)
  either true x y own later = own
  either false x y own later = later

  module _ (response : SeenResponse) where
    media_judged : IsJudged (by_media_type r demand response)
    unfolding by_media_type
    media_judged =
        either (may_be response.content_type (codes "application/json")) (of_object r.additional r.gender demand response.body) _ (object_judged response.body)
        (either (may_be response.content_type (codes "application/jwt")) (of_token r demand.reading demand.verifier response.body) (Err (Response response.status response.body MediaType)) (of_token_judged response.body) tt)

    judged : IsJudged (info_answer r demand response)
    unfolding info_answer
    judged =
        after_when (TooLong response.body) (is_over_long response.body) _ tt
        (after_when (Response response.status response.body Status) (not (response.status == 200)) (by_media_type r demand response) tt media_judged)

    -- a result that is what a response is worth is no fault of the transport
    pub unblamed : {RE : Type 0} (result : Result Claims (UserInfoError RE)) → Gives info_errors result (info_answer r demand response) → IfErr result (λ e. is_fault e ≡ false)
    unblamed (Ok found) gives = tt
    unblamed (Err (ClaimsVerification kind)) gives = refl
    unblamed (Err (Parse refusal)) gives = refl
    unblamed (Err (Request e)) gives = absurd (subst IsJudged gives judged)
    unblamed (Err (Response status body cause)) gives = refl
    unblamed (Err (Other cause)) gives = refl
    unblamed (Err (TooLong body)) gives = refl
    unblamed (Err Memory) gives = refl
