-- What a user info answer is worth, row by row, in the order of the rows (OpenID Connect Core 1.0 sections 5.3.2
-- to 5.3.4).
use Rattle.std.specs.Prelude.{ℕ, List, ◌==◌, Bool, not, Option, Result, Ok, Err, if◌then◌else◌, codes}
use Rattle.std.specs.Str.{is_utf8}
use Rattle.oidc_members.specs.Seen.{SeenMember}
use Rattle.oidc_members.specs.declared.reading.Reading.{Reading}
use Rattle.oidc_members.specs.declared.refusal.Refusal.{Refusal}
use Rattle.oidc_keys.specs.declared.refusals.SignatureVerificationError.TheVariants.{NoSignature}
use Rattle.oidc_oauth2.specs.Messages.{SeenResponse}
use Rattle.oidc_oauth2.specs.HttpUtils.{may_be}
use Rattle.oidc_oauth2.specs.Replies.{◌>>=◌, ◌>>◌, ◌when◌, ◌for◌, ◌or_as◌}
use Rattle.oidc_oauth2.specs.TokenAnswers.{is_over_long, record_in}
use Rattle.oidc_jwt.specs.Tokens.{SeenToken, token_of}
use Rattle.oidc_tokens.specs.Signatures.{KeyMeanings}
use Rattle.oidc_tokens.specs.UserInfoVerification.{SeenUserInfoVerifier, is_expected_subject, first_info_failure}
use Rattle.oidc_tokens.specs.declared.verification.refusals.ClaimsVerificationError.{ClaimsVerificationError}
use Rattle.oidc_tokens.specs.declared.verification.refusals.ClaimsVerificationError.TheVariants.{SignatureVerification, InvalidSubject}
use Rattle.oidc_user_info.specs.UserInfoClaims.{SeenUserInfoClaims, user_info_claims_of, parties_of}
use Rattle.oidc_user_info.specs.InfoErrors.{Meant}
use Rattle.oidc_user_info.specs.declared.errors.InfoOther.TheVariants.{Utf8}
use Rattle.oidc_user_info.specs.declared.errors.ResponseCause.TheVariants.{Status, MediaType}
use Rattle.oidc_user_info.specs.declared.errors.UserInfoError.TheVariants.{ClaimsVerification, Parse, Response, Other, TooLong}

-- what is asked of an answer: whether it has to be signed, how its claims are read, and by whom, for whom and about whom
-- it has to be
pub record Demand (Key : Type 0) : Type 0 where
  pub signed : Bool
  pub reading : Reading
  pub verifier : SeenUserInfoVerifier Key

-- ---- how claims and tokens are read, and what is known of keys

pub record Readers (AC GC JE Key Use Algorithm Type' : Type 0) : Type 1 where
  pub additional : List SeenMember → Result AC Refusal
  pub gender : SeenMember → Result GC Refusal
  pub encryption_named : List ℕ → Option JE
  pub signing_named : List ℕ → Option Algorithm
  pub keys : KeyMeanings Key Use Algorithm Type'

abbrev pub readers : {AC GC JE Key Use Algorithm Type' : Type 0}
    → (List SeenMember → Result AC Refusal) → (SeenMember → Result GC Refusal)
    → (List ℕ → Option JE) → (List ℕ → Option Algorithm) → KeyMeanings Key Use Algorithm Type'
    → Readers AC GC JE Key Use Algorithm Type'
readers additional gender encryption signing keys = record {
  additional = additional;
  gender = gender;
  encryption_named = encryption;
  signing_named = signing;
  keys = keys;
}

-- the claims that a body holds as an object
abbrev pub claims_in : {AC GC : Type 0} → (List SeenMember → Result AC Refusal)
    → (SeenMember → Result GC Refusal) → Reading → List ℕ → Result (SeenUserInfoClaims AC GC) Refusal
claims_in additional gender reading body = record_in (user_info_claims_of additional gender reading) body

-- ---- the rows

-- those of an object, where a subject may be expected, under a reading
unfoldable pub from_json : {AC GC : Type 0} → (List SeenMember → Result AC Refusal)
    → (SeenMember → Result GC Refusal) → Reading → Option (List ℕ) → List ℕ
    → Meant (SeenUserInfoClaims AC GC)
from_json additional gender reading expected body = do
  claims ← claims_in additional gender reading body or_as Parse
  ClaimsVerification InvalidSubject when not (is_expected_subject expected claims.standard_claims.subject)
  Ok claims

-- those of an answer that is an object
unfoldable pub of_object : {AC GC Key : Type 0} → (List SeenMember → Result AC Refusal)
    → (SeenMember → Result GC Refusal) → Demand Key → List ℕ → Meant (SeenUserInfoClaims AC GC)
of_object additional gender demand body = do
  ClaimsVerification (SignatureVerification NoSignature) when demand.signed
  from_json additional gender demand.reading demand.verifier.expected_subject body

module _ {AC GC JE Key Use Algorithm Type' : Type 0} (r : Readers AC GC JE Key Use Algorithm Type') where
  -- the token that a text is, whose claims are read under a reading
  abbrev pub token_in : Reading → List ℕ → Result (SeenToken JE Algorithm (SeenUserInfoClaims AC GC)) Refusal
  token_in reading text =
      token_of r.encryption_named r.signing_named (user_info_claims_of r.additional r.gender reading) text

  -- the first check of a token that fails
  abbrev pub failure_of : SeenUserInfoVerifier Key → SeenToken JE Algorithm (SeenUserInfoClaims AC GC)
      → Option ClaimsVerificationError
  failure_of v token = first_info_failure r.keys v token (parties_of token.payload)

  -- the claims of a token that is accepted
  abbrev pub accepted_claims : SeenUserInfoVerifier Key → SeenToken JE Algorithm (SeenUserInfoClaims AC GC)
      → Meant (SeenUserInfoClaims AC GC)
  accepted_claims v token = do
    ClaimsVerification for failure_of v token
    Ok token.payload

  -- those of a token's text
  abbrev pub of_text : Reading → SeenUserInfoVerifier Key → List ℕ → Meant (SeenUserInfoClaims AC GC)
  of_text reading v text = do
    token ← token_in reading text or_as Parse
    accepted_claims v token

  -- those of an answer that is a token
  unfoldable pub of_token : Reading → SeenUserInfoVerifier Key → List ℕ → Meant (SeenUserInfoClaims AC GC)
  of_token reading v body = do
    Other Utf8 when not (is_utf8 body)
    of_text reading v body

  -- An answer without a media type is an object.
  unfoldable pub by_media_type : Demand Key → SeenResponse → Meant (SeenUserInfoClaims AC GC)
  by_media_type demand answer =
      if may_be answer.content_type (codes "application/json") then of_object r.additional r.gender demand answer.body
      else if may_be answer.content_type (codes "application/jwt") then of_token demand.reading demand.verifier answer.body
      else Err (Response answer.status answer.body MediaType)

  -- The size is looked at before the status.
  unfoldable pub info_answer : Demand Key → SeenResponse → Meant (SeenUserInfoClaims AC GC)
  info_answer demand answer = do
    TooLong answer.body when is_over_long answer.body
    Response answer.status answer.body Status when not (answer.status == 200)
    by_media_type demand answer
