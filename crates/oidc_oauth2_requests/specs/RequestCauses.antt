-- What each reply to a request rests on, said without the rows of its table.
use Rattle.std.specs.Prelude.{◌≡◌, ◌≢◌, ℕ, List, None, Some, true, false, Result, Ok, Err}
use Rattle.oidc_members.specs.Seen.{SeenMember}
use Rattle.oidc_members.specs.declared.refusal.Refusal.{Refusal}
use Rattle.oidc_oauth2.specs.Messages.{SeenRequest, SeenResponse, SeenAnswer}
use Rattle.oidc_oauth2.specs.Transport.{first_answer}
use Rattle.oidc_oauth2.specs.Requests.{is_address}
use Rattle.oidc_oauth2.specs.TokenAnswers.{TokenRefusal, is_over_long, is_empty, record_in}
use Rattle.oidc_oauth2.specs.AnswerCauses.{HoldsErrorObject, IsTooLong, AnswerCause, IsTokenAnswer}
use Rattle.oidc_oauth2.specs.declared.error_types.DeviceCodeErrorResponseType.{DeviceCodeErrorResponseType}
use Rattle.oidc_oauth2.specs.declared.error_types.DeviceCodeErrorResponseType.TheVariants.{AuthorizationPending, SlowDown}
use Rattle.oidc_oauth2.specs.declared.token_answers.OtherCause.TheVariants.{Uri, EmptyBody, MediaType}
use Rattle.oidc_oauth2.specs.declared.token_answers.RequestTokenError.TheVariants.{ServerResponse, Request, Parse, Other, TooLong, Memory}
use Rattle.oidc_oauth2_requests.specs.declared.device.PollStep.{PollStep}
use Rattle.oidc_oauth2_requests.specs.declared.device.PollStep.TheVariants as step
use Rattle.oidc_oauth2_requests.specs.FormRequests.{SeenFormRequest, form_request}
use Rattle.oidc_oauth2_requests.specs.RequestAnswers.{DeviceError, device_error_response_of}

-- ---- a response to a revocation (RFC 7009 section 2.2)

-- its status is 200
pub record IsRevoked (r : SeenResponse) : Type 0 where
  pub not_too_long : is_over_long r.body ≡ false
  pub success : r.status ≡ 200

-- its status isn't 200, and its body is empty
pub record IsRefusedSilently (r : SeenResponse) : Type 0 where
  pub no_success : r.status ≢ 200
  pub no_body : is_empty r.body ≡ true

module _ {TE : Type 0} (error_of : List SeenMember → Result TE Refusal) (r : SeenResponse) where
  -- its status isn't 200, and its body reads as this error response
  pub record SaysError (error : TE) : Type 0 where
    pub holds : HoldsErrorObject r
    pub read : record_in error_of r.body ≡ Ok error

  -- its status isn't 200, and its body doesn't read as an error response
  pub record SaysNoError (refusal : Refusal) (body : List ℕ) : Type 0 where
    pub holds : HoldsErrorObject r
    pub unread : record_in error_of r.body ≡ Err refusal
    pub own_body : r.body ≡ body

  -- of a response whose body isn't too long
  abbrev pub RefusalCause : TokenRefusal TE → Type 0
  RefusalCause (ServerResponse error) = SaysError error
  RefusalCause (Request u) = ⊥
  RefusalCause (Parse refusal body) = SaysNoError refusal body
  RefusalCause (Other Uri) = ⊥
  RefusalCause (Other EmptyBody) = IsRefusedSilently r
  RefusalCause (Other MediaType) = ⊥
  RefusalCause (TooLong body) = ⊥
  RefusalCause Memory = ⊥

  pub record FailsWith (e : TokenRefusal TE) : Type 0 where
    pub not_too_long : is_over_long r.body ≡ false
    pub cause : RefusalCause e

  abbrev pub RevocationCause : TokenRefusal TE → Type 0
  RevocationCause (TooLong body) = IsTooLong r body
  RevocationCause e = FailsWith e

-- ---- a response to a device that asks for its tokens (RFC 8628 section 3.5)

-- no word that a device waits for
abbrev pub IsRefusal : DeviceCodeErrorResponseType → Type 0
IsRefusal AuthorizationPending = ⊥
IsRefusal SlowDown = ⊥
IsRefusal word = Unit {0}

module _ {TR : Type 0} (token_of : List SeenMember → Result TR Refusal) (r : SeenResponse) where
  -- It is an error response with this word.
  pub record SaysWord (word : DeviceCodeErrorResponseType) : Type 0 where
    pub error : DeviceError
    pub own_word : error.error ≡ word
    pub says : AnswerCause device_error_response_of token_of r (ServerResponse error)

  -- It is this error response, whose word isn't one that a device waits for.
  pub record SaysRefusal (error : DeviceError) : Type 0 where
    pub is_refusal : IsRefusal error.error
    pub says : AnswerCause device_error_response_of token_of r (ServerResponse error)

  abbrev pub PollCause : TokenRefusal DeviceError → Type 0
  PollCause (ServerResponse error) = SaysRefusal error
  PollCause e = AnswerCause device_error_response_of token_of r e

  -- what each step rests on
  abbrev pub StepCause : PollStep TR → Type 0
  StepCause (step.Done tokens) = IsTokenAnswer device_error_response_of token_of r tokens
  StepCause step.Pending = SaysWord AuthorizationPending
  StepCause step.SlowDown = SaysWord SlowDown

-- ---- a whole request

module _ (ask : SeenFormRequest) (answers : List SeenAnswer) where
  -- The request was made, and this came back.
  pub record AnswerCame (answer : SeenAnswer) : Type 0 where
    pub request : SeenRequest
    pub request_made : form_request ask ≡ Some request
    pub answer_came : first_answer answers ≡ answer

  -- The response that came is refused with this, by what a response is refused for.
  pub record IsRefused {TE : Type 0} (Refuses : SeenResponse → TokenRefusal TE → Type 0) (e : TokenRefusal TE) : Type 0 where
    pub response : SeenResponse
    pub came : AnswerCame (Some response)
    pub cause : Refuses response e

  -- The response that came holds this, by what a response holds.
  pub record IsHeld {A : Type 0} (Holds : SeenResponse → A → Type 0) (value : A) : Type 0 where
    pub response : SeenResponse
    pub came : AnswerCame (Some response)
    pub held : Holds response value

  -- the cause of each refusal; want of memory is none
  abbrev pub Cause : {TE : Type 0} → (SeenResponse → TokenRefusal TE → Type 0) → TokenRefusal TE → Type 0
  Cause Refuses (Other Uri) = is_address ask.address ≡ false
  Cause Refuses (Request u) = AnswerCame None
  Cause Refuses Memory = ⊥
  Cause Refuses e = IsRefused Refuses e
