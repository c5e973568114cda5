-- What each reply to a request for user info rests on, said without the rows of the table.
use Rattle.std.specs.Prelude.{◌≡◌, ◌≢◌, ◌⊎◌, ℕ, List, None, Some, true, false, Ok, Err, codes}
use Rattle.std.specs.Str.{is_utf8}
use Rattle.http_header.specs.FieldValue.{is_visible_text}
use Rattle.oidc_members.specs.declared.refusal.Refusal.{Refusal}
use Rattle.oidc_keys.specs.declared.refusals.SignatureVerificationError.TheVariants.{NoSignature, Memory as NoMemory}
use Rattle.oidc_oauth2.specs.Messages.{SeenResponse, SeenAnswer}
use Rattle.oidc_oauth2.specs.HttpUtils.{may_be}
use Rattle.oidc_oauth2.specs.Requests.{is_address}
use Rattle.oidc_oauth2.specs.Transport.{first_answer}
use Rattle.oidc_oauth2.specs.TokenAnswers.{is_over_long}
use Rattle.oidc_jwt.specs.Tokens.{SeenToken}
use Rattle.oidc_tokens.specs.UserInfoVerification.{AcceptsInfo}
use Rattle.oidc_tokens.specs.UserInfoCauses.{InfoTokenCause}
use Rattle.oidc_tokens.specs.declared.verification.refusals.ClaimsVerificationError.{ClaimsVerificationError}
use Rattle.oidc_tokens.specs.declared.verification.refusals.ClaimsVerificationError.TheVariants as claims
use Rattle.oidc_user_info.specs.UserInfoClaims.{SeenUserInfoClaims, parties_of}
use Rattle.oidc_user_info.specs.InfoErrors.{InfoRefusal}
use Rattle.oidc_user_info.specs.InfoAnswers.{Readers, claims_in, token_in, failure_of}
use Rattle.oidc_user_info.specs.InfoRequests.{SeenInfoRequest}
use Rattle.oidc_user_info.specs.declared.errors.InfoOther.TheVariants as other
use Rattle.oidc_user_info.specs.declared.errors.ResponseCause.TheVariants.{Status, MediaType}
use Rattle.oidc_user_info.specs.declared.errors.UserInfoError.TheVariants.{ClaimsVerification, Parse, Request, Response, Other, TooLong, Memory}

-- ---- how far a request came: each record rests on the one before

module _ {Key : Type 0} (ask : SeenInfoRequest Key) where
  -- the token may stand in a header, and the address is one that is sent to
  pub record IsAsked : Type 0 where
    pub token_fits : is_visible_text ask.access_token ≡ true
    pub address_fits : is_address ask.address ≡ true

  pub record HasNoAddress : Type 0 where
    pub token_fits : is_visible_text ask.access_token ≡ true
    pub no_address : is_address ask.address ≡ false

  module _ (answers : List SeenAnswer) where
    -- the transport failed
    pub record IsUnanswered : Type 0 where
      pub asked : IsAsked
      pub no_response : first_answer answers ≡ None

    -- this response came
    pub record Came (response : SeenResponse) : Type 0 where
      pub asked : IsAsked
      pub response_came : first_answer answers ≡ Some response

    -- its body is not too long
    pub record Fits (response : SeenResponse) : Type 0 where
      pub came : Came response
      pub not_too_long : is_over_long response.body ≡ false

    -- its status is 200
    pub record Succeeds (response : SeenResponse) : Type 0 where
      pub fits : Fits response
      pub success : response.status ≡ 200

    -- its media type is that of JSON, or absent, and this is its body
    pub record HoldsObject (body : List ℕ) : Type 0 where
      pub response : SeenResponse
      pub succeeds : Succeeds response
      pub json : may_be response.content_type (codes "application/json") ≡ true
      pub own_body : response.body ≡ body

    -- its media type is that of a JSON Web Token, and this is its body
    pub record HoldsToken (body : List ℕ) : Type 0 where
      pub response : SeenResponse
      pub succeeds : Succeeds response
      pub no_json : may_be response.content_type (codes "application/json") ≡ false
      pub jwt : may_be response.content_type (codes "application/jwt") ≡ true
      pub own_body : response.body ≡ body

    -- the object may be there without a signature
    pub record AllowsObject (body : List ℕ) : Type 0 where
      pub holds : HoldsObject body
      pub unsigned_allowed : ask.demand.signed ≡ false

    -- the body is a text
    pub record HoldsText (body : List ℕ) : Type 0 where
      pub holds : HoldsToken body
      pub text : is_utf8 body ≡ true

    -- ---- refusals by status and media type

    pub record IsTooLong (body : List ℕ) : Type 0 where
      pub response : SeenResponse
      pub came : Came response
      pub too_long : is_over_long response.body ≡ true
      pub own_body : response.body ≡ body

    pub record HasOtherStatus (status : ℕ) (body : List ℕ) : Type 0 where
      pub response : SeenResponse
      pub fits : Fits response
      pub no_success : response.status ≢ 200
      pub own_status : response.status ≡ status
      pub own_body : response.body ≡ body

    pub record HasOtherType (status : ℕ) (body : List ℕ) : Type 0 where
      pub response : SeenResponse
      pub succeeds : Succeeds response
      pub no_json : may_be response.content_type (codes "application/json") ≡ false
      pub no_jwt : may_be response.content_type (codes "application/jwt") ≡ false
      pub own_status : response.status ≡ status
      pub own_body : response.body ≡ body

    pub record HoldsNoText : Type 0 where
      pub body : List ℕ
      pub holds : HoldsToken body
      pub no_text : is_utf8 body ≡ false

    module _ {AC GC JE Use Algorithm Type' : Type 0} (r : Readers AC GC JE Key Use Algorithm Type') where
      -- ---- what a body says

      abbrev Claims : Type 0
      Claims = SeenUserInfoClaims AC GC

      abbrev InfoToken : Type 0
      InfoToken = SeenToken JE Algorithm Claims

      pub record ReadsObject (found : Claims) : Type 0 where
        pub body : List ℕ
        pub allows : AllowsObject body
        pub read : claims_in r.additional r.gender ask.demand.reading body ≡ Ok found

      pub record ReadsToken (token : InfoToken) : Type 0 where
        pub body : List ℕ
        pub holds : HoldsText body
        pub read : token_in r ask.demand.reading body ≡ Ok token

      -- ---- an Ok

      -- The answer is an object, which may be unsigned, with these claims, about any subject that is expected.
      pub record IsObjectOf (found : Claims) : Type 0 where
        pub reads : ReadsObject found
        pub about : (expected : List ℕ) → ask.demand.verifier.expected_subject ≡ Some expected
            → found.standard_claims.subject ≡ expected

      -- The answer is a token with these claims, which the verifier accepts.
      pub record IsTokenOf (found : Claims) : Type 0 where
        pub token : InfoToken
        pub reads : ReadsToken token
        pub accepts : AcceptsInfo r.keys ask.demand.verifier token (parties_of token.payload)
        pub own_claims : token.payload ≡ found

      abbrev pub IsUserInfo : Claims → Type 0
      IsUserInfo found = IsObjectOf found ⊎ IsTokenOf found

      -- ---- refusals by what the body says

      pub record ObjectIsRefused (refusal : Refusal) : Type 0 where
        pub body : List ℕ
        pub allows : AllowsObject body
        pub refused : claims_in r.additional r.gender ask.demand.reading body ≡ Err refusal

      pub record TokenIsRefused (refusal : Refusal) : Type 0 where
        pub body : List ℕ
        pub holds : HoldsText body
        pub refused : token_in r ask.demand.reading body ≡ Err refusal

      -- a signature is asked for, and the answer is an object
      pub record LacksSignature : Type 0 where
        pub body : List ℕ
        pub holds : HoldsObject body
        pub signature_asked : ask.demand.signed ≡ true

      -- the object is about another subject than the one that is expected
      pub record IsAboutAnother : Type 0 where
        pub found : Claims
        pub reads : ReadsObject found
        pub expected : List ℕ
        pub is_expected : ask.demand.verifier.expected_subject ≡ Some expected
        pub another : found.standard_claims.subject ≢ expected

      abbrev pub ObjectFails : ClaimsVerificationError → Type 0
      ObjectFails (claims.SignatureVerification NoSignature) = LacksSignature
      ObjectFails claims.InvalidSubject = IsAboutAnother
      ObjectFails kind = ⊥

      -- this check of the token is the first that fails, and this is why
      pub record TokenFails (kind : ClaimsVerificationError) : Type 0 where
        pub token : InfoToken
        pub reads : ReadsToken token
        pub check_failed : failure_of r ask.demand.verifier token ≡ Some kind
        pub cause : InfoTokenCause r.keys ask.demand.verifier token (parties_of token.payload) kind

      -- ---- the cause of each refusal; want of memory is never one inside another

      abbrev pub Cause : InfoRefusal → Type 0
      Cause (ClaimsVerification claims.Memory) = ⊥
      Cause (ClaimsVerification (claims.SignatureVerification NoMemory)) = ⊥
      Cause (ClaimsVerification kind) = ObjectFails kind ⊎ TokenFails kind
      Cause (Parse refusal) = ObjectIsRefused refusal ⊎ TokenIsRefused refusal
      Cause (Request u) = IsUnanswered
      Cause (Response status body Status) = HasOtherStatus status body
      Cause (Response status body MediaType) = HasOtherType status body
      Cause (Other other.Bearer) = is_visible_text ask.access_token ≡ false
      Cause (Other other.Uri) = HasNoAddress
      Cause (Other other.Utf8) = HoldsNoText
      Cause (TooLong body) = IsTooLong body
      Cause Memory = ⊥
