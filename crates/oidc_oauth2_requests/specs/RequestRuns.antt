-- What a request leaves of any transport, and what its result rests on.
use Rattle.std.specs.Prelude.{List, Result, Ok, Err, IfOk, IfErr}
use Rattle.oidc_members.specs.Seen.{SeenMember}
use Rattle.oidc_members.specs.declared.refusal.Refusal.{Refusal}
use Rattle.oidc_oauth2.specs.Replies.{◌or◌, OrMemory, Gives}
use Rattle.oidc_oauth2.specs.Messages.{SeenResponse, SeenAnswer}
use Rattle.oidc_oauth2.specs.TokenAnswers.{TokenRefusal, token_answer, seen_refusal, token_errors}
use Rattle.oidc_oauth2.specs.AnswerCauses.{AnswerCause, IsTokenAnswer}
use Rattle.oidc_oauth2.specs.Exchanges.{Known, Run, reply_by, one_request, Follows}
use Rattle.oidc_oauth2.specs.declared.token_answers.OtherCause.TheVariants.{Uri}
use Rattle.oidc_oauth2.specs.declared.token_answers.RequestTokenError.{RequestTokenError}
use Rattle.oidc_oauth2.specs.declared.token_answers.RequestTokenError.TheVariants.{Request, Other}
use Rattle.oidc_oauth2_requests.specs.declared.device.PollStep.{PollStep}
use Rattle.oidc_oauth2_requests.specs.FormRequests.{SeenFormRequest, form_request}
use Rattle.oidc_oauth2_requests.specs.RequestAnswers.{DeviceError, revocation_answer, poll_answer}
use Rattle.oidc_oauth2_requests.specs.RequestCauses.{IsRevoked, RevocationCause, PollCause, StepCause, IsHeld, Cause}

module _ {A TE : Type 0} (worth : SeenResponse → Result A (TokenRefusal TE)) where
  -- the one request, where its address is one that is sent to, and the reply by the answer to it
  abbrev pub request_run : SeenFormRequest → List SeenAnswer → Run A (TokenRefusal TE)
  request_run ask = one_request (reply_by (Request tt) worth) (form_request ask or Other Uri)

  -- By what a response is worth, what it is refused for, and what it holds.
  module _ (Refuses : SeenResponse → TokenRefusal TE → Type 0) (Holds : SeenResponse → A → Type 0) where
    pub record Ran {RE : Type 0} (ask : SeenFormRequest) (old new : Known)
        (result : Result A (RequestTokenError RE TE)) : Type 0 where
      pub exchanged : Follows token_errors (request_run ask) old new result
      -- each refusal has its cause, and each cause its refusal
      pub cause : IfErr result (λ e. OrMemory token_errors result (Cause ask exchanged.answers Refuses (seen_refusal e)))
      pub refused : (e : TokenRefusal TE) → Cause ask exchanged.answers Refuses e → Gives token_errors result (Err e)
      -- an Ok has what the answer holds, and what it holds is an Ok
      pub held : IfOk result (IsHeld ask exchanged.answers Holds)
      pub holds : (value : A) → IsHeld ask exchanged.answers Holds value → Gives token_errors result (Ok value)

-- ---- of each kind of answer

module _ {RE : Type 0} (ask : SeenFormRequest) (old new : Known) where
  -- a record: tokens, codes for a device, what is said of a token
  abbrev pub RanForRecord : {TE A : Type 0} → (List SeenMember → Result TE Refusal) → (List SeenMember → Result A Refusal)
      → Result A (RequestTokenError RE TE) → Type 0
  RanForRecord error_of read_of =
      Ran (token_answer error_of read_of) (AnswerCause error_of read_of) (IsTokenAnswer error_of read_of) ask old new

  -- nothing, of a revocation
  abbrev pub RanForRevocation : {TE : Type 0} → (List SeenMember → Result TE Refusal) → Result (Unit {0}) (RequestTokenError RE TE) → Type 0
  RanForRevocation error_of =
      Ran (revocation_answer error_of) (RevocationCause error_of) (λ r u. IsRevoked r) ask old new

  -- a step of polling
  abbrev pub RanForStep : {TR : Type 0} → (List SeenMember → Result TR Refusal) → Result (PollStep TR) (RequestTokenError RE DeviceError) → Type 0
  RanForStep token_of = Ran (poll_answer token_of) (PollCause token_of) (StepCause token_of) ask old new
