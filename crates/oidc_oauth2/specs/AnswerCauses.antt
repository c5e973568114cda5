-- What each reply to a request for tokens rests on, said without the rows of its table
-- (RFC 6749 sections 5.1 and 5.2).
use Rattle.std.specs.Prelude.{◌≡◌, ◌≢◌, ◌⊎◌, ℕ, List, None, Some, true, false, Result, Ok, Err, IfOk, IfErr}
use Rattle.oidc_members.specs.Seen.{SeenMember}
use Rattle.oidc_members.specs.declared.refusal.Refusal.{Refusal}
use Rattle.oidc_oauth2.specs.Replies.{◌or◌, Unless, OrMemory, Gives}
use Rattle.oidc_oauth2.specs.Messages.{SeenRequest, SeenResponse, SeenAnswer}
use Rattle.oidc_oauth2.specs.Transport.{first_answer}
use Rattle.oidc_oauth2.specs.Requests.{SeenCodeRequest, is_address, code_request}
use Rattle.oidc_oauth2.specs.TokenAnswers.{TokenRefusal, is_over_long, is_empty, may_be_json, record_in, token_answer, seen_refusal, wants_memory, token_errors}
use Rattle.oidc_oauth2.specs.Exchanges.{Known, Run, reply_by, one_request, Follows}
use Rattle.oidc_oauth2.specs.declared.token_answers.OtherCause.TheVariants.{Uri, EmptyBody, MediaType}
use Rattle.oidc_oauth2.specs.declared.token_answers.RequestTokenError.{RequestTokenError}
use Rattle.oidc_oauth2.specs.declared.token_answers.RequestTokenError.TheVariants.{ServerResponse, Request, Parse, Other, TooLong, Memory}

-- ---- how far a response came

-- Its status is 200, its media type is that of JSON, or absent, and its body isn't empty.
pub record HoldsObject (r : SeenResponse) : Type 0 where
  pub success : r.status ≡ 200
  pub json : may_be_json r ≡ true
  pub some_body : is_empty r.body ≡ false

-- Its status isn't 200, and its body isn't empty.
pub record HoldsErrorObject (r : SeenResponse) : Type 0 where
  pub no_success : r.status ≢ 200
  pub some_body : is_empty r.body ≡ false

-- ---- refusals by status, media type and body

-- Its body is empty. On status 200 the media type is that of JSON, or absent.
pub record HasEmptyBody (r : SeenResponse) : Type 0 where
  pub empty : is_empty r.body ≡ true
  pub json : r.status ≡ 200 → may_be_json r ≡ true

-- Its status is 200, and its media type is there and isn't that of JSON.
pub record HasOtherType (r : SeenResponse) : Type 0 where
  pub success : r.status ≡ 200
  pub no_json : may_be_json r ≡ false

pub record IsTooLong (r : SeenResponse) (body : List ℕ) : Type 0 where
  pub too_long : is_over_long r.body ≡ true
  pub own_body : r.body ≡ body

-- ---- what a body says, as an error response and as tokens

module _ {TE TR : Type 0} (error_of : List SeenMember → Result TE Refusal)
    (token_of : List SeenMember → Result TR Refusal) where
  module _ (r : SeenResponse) where
    -- Its body reads as these tokens.
    pub record HoldsTokens (tokens : TR) : Type 0 where
      pub holds : HoldsObject r
      pub read : record_in token_of r.body ≡ Ok tokens

    -- Its body reads as this error response.
    pub record HoldsError (error : TE) : Type 0 where
      pub holds : HoldsErrorObject r
      pub read : record_in error_of r.body ≡ Ok error

    -- Its body should be tokens, and doesn't read as such.
    pub record HoldsNoTokens (refusal : Refusal) : Type 0 where
      pub holds : HoldsObject r
      pub unread : record_in token_of r.body ≡ Err refusal

    -- Its body should be an error response, and doesn't read as such.
    pub record HoldsNoError (refusal : Refusal) : Type 0 where
      pub holds : HoldsErrorObject r
      pub unread : record_in error_of r.body ≡ Err refusal

    pub record DoesNotRead (refusal : Refusal) (body : List ℕ) : Type 0 where
      pub own_body : r.body ≡ body
      pub unread : HoldsNoTokens refusal ⊎ HoldsNoError refusal

    -- ---- the cause of each refusal of a response

    -- of a response whose body isn't too long
    abbrev pub StatusCause : TokenRefusal TE → Type 0
    StatusCause (ServerResponse error) = HoldsError error
    StatusCause (Request u) = ⊥
    StatusCause (Parse refusal body) = DoesNotRead refusal body
    StatusCause (Other Uri) = ⊥
    StatusCause (Other EmptyBody) = HasEmptyBody r
    StatusCause (Other MediaType) = HasOtherType r
    StatusCause (TooLong body) = ⊥
    StatusCause Memory = ⊥

    pub record FailsWith (e : TokenRefusal TE) : Type 0 where
      pub not_too_long : is_over_long r.body ≡ false
      pub cause : StatusCause e

    abbrev pub AnswerCause : TokenRefusal TE → Type 0
    AnswerCause (TooLong body) = IsTooLong r body
    AnswerCause e = FailsWith e

    -- ---- an answer with tokens

    pub record IsTokenAnswer (tokens : TR) : Type 0 where
      pub not_too_long : is_over_long r.body ≡ false
      pub tokens_held : HoldsTokens tokens

  -- The cause of a refusal; want of memory needs none.
  abbrev pub Because : {RE : Type 0} → SeenResponse → RequestTokenError RE TE → Type 0
  Because r e = Unless (wants_memory e) (AnswerCause r (seen_refusal e))

  -- ---- a whole request

  module _ (ask : SeenCodeRequest) (answers : List SeenAnswer) where
    -- The request was made, and this came back.
    pub record Came (answer : SeenAnswer) : Type 0 where
      pub request : SeenRequest
      pub request_made : code_request ask ≡ Some request
      pub answer_came : first_answer answers ≡ answer

    -- The response that came is refused with this.
    pub record IsRefused (e : TokenRefusal TE) : Type 0 where
      pub response : SeenResponse
      pub came : Came (Some response)
      pub cause : AnswerCause response e

    -- the cause of each refusal; want of memory is none
    abbrev pub Cause : TokenRefusal TE → Type 0
    Cause (Other Uri) = is_address ask.address ≡ false
    Cause (Request u) = Came None
    Cause Memory = ⊥
    Cause e = IsRefused e

    -- The response that came holds these tokens.
    pub record TokensCame (tokens : TR) : Type 0 where
      pub response : SeenResponse
      pub came : Came (Some response)
      pub tokens_in_response : IsTokenAnswer response tokens

  -- the reply by an answer
  abbrev pub code_reply : SeenAnswer → Result TR (TokenRefusal TE)
  code_reply = reply_by (Request tt) (token_answer error_of token_of)

  -- the one request, where its address is one that is sent to, and the reply by the answer to it
  abbrev pub code_run : SeenCodeRequest → List SeenAnswer → Run TR (TokenRefusal TE)
  code_run ask = one_request code_reply (code_request ask or Other Uri)

  -- What a request leaves of any transport, and what its result rests on.
  pub record RanTokenRequest {RE : Type 0} (ask : SeenCodeRequest) (old new : Known)
      (result : Result TR (RequestTokenError RE TE)) : Type 0 where
    pub exchanged : Follows token_errors (code_run ask) old new result
    -- each refusal has its cause, and each cause its refusal
    pub cause : IfErr result (λ e. OrMemory token_errors result (Cause ask exchanged.answers (seen_refusal e)))
    pub refused : (e : TokenRefusal TE) → Cause ask exchanged.answers e → Gives token_errors result (Err e)
    -- an Ok has the tokens that the answer holds, and tokens that it holds are an Ok
    pub held : IfOk result (TokensCame ask exchanged.answers)
    pub holds : (tokens : TR) → TokensCame ask exchanged.answers tokens → Gives token_errors result (Ok tokens)
