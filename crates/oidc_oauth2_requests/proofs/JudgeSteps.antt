-- The judge of a poll.
use Rattle.std.proofs.Common.{◌≡◌, List, refl, ap, subst, sym, ◌∙◌}
use Rattle.std.specs.Prelude.{Result, Ok, Err}
use Rattle.oidc_members.specs.Seen.{SeenMember}
use Rattle.oidc_members.specs.declared.refusal.Refusal.{Refusal}
use Rattle.oidc_oauth2.specs.Messages.{SeenResponse}
use Rattle.oidc_oauth2.specs.TokenAnswers.{TokenRefusal, token_answer}
use Rattle.oidc_oauth2.specs.AnswerCauses.{AnswerCause, IsTokenAnswer}
use Rattle.oidc_oauth2.specs.declared.error_types.DeviceCodeErrorResponseType.{DeviceCodeErrorResponseType}
use Rattle.oidc_oauth2.specs.declared.error_types.DeviceCodeErrorResponseType.TheVariants.{AuthorizationPending, SlowDown, AccessDenied, ExpiredToken, Basic}
use Rattle.oidc_oauth2.specs.declared.token_answers.RequestTokenError.TheVariants.{ServerResponse, Request, Parse, Other, TooLong, Memory}
use Rattle.oidc_oauth2.proofs.Theorems.{tokens_answer, refused_answer}
use Rattle.oidc_oauth2_requests.specs.declared.device.PollStep.{PollStep}
use Rattle.oidc_oauth2_requests.specs.declared.device.PollStep.TheVariants as step
use Rattle.oidc_oauth2_requests.specs.RequestAnswers.{DeviceError, device_error_response_of, step_on, step_of, poll_answer}
use Rattle.oidc_oauth2_requests.specs.RequestCauses.{IsRefusal, PollCause, StepCause}
use Rattle.oidc_oauth2_requests.proofs.Judges.{Rests, IsJudge}
use Rattle.oidc_oauth2_requests.proofs.JudgeRecords.{records}

refusal_step : {TR : Type 0} (word : DeviceCodeErrorResponseType) (error : DeviceError) → IsRefusal word → step_on {TR = TR} word error ≡ Err (ServerResponse error)
refusal_step AuthorizationPending error is = absurd is
refusal_step SlowDown error is = absurd is
refusal_step AccessDenied error is = refl
refusal_step ExpiredToken error is = refl
refusal_step (Basic basic) error is = refl

module _ {TR : Type 0} (token_of : List SeenMember → Result TR Refusal) (r : SeenResponse) where
  abbrev StepRests : Result (PollStep TR) (TokenRefusal DeviceError) → Type 0
  StepRests = Rests (PollCause token_of) (StepCause token_of) r

  abbrev Says : DeviceError → Type 0
  Says error = AnswerCause device_error_response_of token_of r (ServerResponse error)

  word_rests : (word : DeviceCodeErrorResponseType) (error : DeviceError) → error.error ≡ word → Says error → StepRests (step_on word error)
  word_rests AuthorizationPending error is says = record { error = error; own_word = is; says = says }
  word_rests SlowDown error is says = record { error = error; own_word = is; says = says }
  word_rests AccessDenied error is says = record { is_refusal = subst IsRefusal (sym is) tt; says = says }
  word_rests ExpiredToken error is says = record { is_refusal = subst IsRefusal (sym is) tt; says = says }
  word_rests (Basic basic) error is says = record { is_refusal = subst IsRefusal (sym is) tt; says = says }

  abbrev AnswerRests : Result TR (TokenRefusal DeviceError) → Type 0
  AnswerRests = Rests (AnswerCause device_error_response_of token_of) (IsTokenAnswer device_error_response_of token_of) r

  step_rests : (reply : Result TR (TokenRefusal DeviceError)) → AnswerRests reply → StepRests (step_of reply)
  step_rests (Ok tokens) known = known
  step_rests (Err (ServerResponse error)) known = word_rests error.error error refl known
  step_rests (Err (Request u)) known = known
  step_rests (Err (Parse refusal body)) known = known
  step_rests (Err (Other cause)) known = known
  step_rests (Err (TooLong body)) known = known
  step_rests (Err Memory) known = known

  rests : StepRests (poll_answer token_of r)
  unfolding poll_answer
  rests = step_rests (token_answer device_error_response_of token_of r) ((records device_error_response_of token_of).rests r)

  -- ---- and back

  by_answer : (reply : Result TR (TokenRefusal DeviceError)) → token_answer device_error_response_of token_of r ≡ reply → poll_answer token_of r ≡ step_of reply
  unfolding poll_answer
  by_answer reply is = ap step_of is

  answers : (e : TokenRefusal DeviceError) → AnswerCause device_error_response_of token_of r e → poll_answer token_of r ≡ step_of (Err e)
  answers e c = by_answer (Err e) (refused_answer device_error_response_of token_of r e c)

  refused : (e : TokenRefusal DeviceError) → PollCause token_of r e → poll_answer token_of r ≡ Err e
  refused (ServerResponse error) c = answers (ServerResponse error) c.says ∙ refusal_step error.error error c.is_refusal
  refused (Request u) c = answers (Request u) c
  refused (Parse refusal body) c = answers (Parse refusal body) c
  refused (Other cause) c = answers (Other cause) c
  refused (TooLong body) c = answers (TooLong body) c
  refused Memory c = answers Memory c

  held : (made : PollStep TR) → StepCause token_of r made → poll_answer token_of r ≡ Ok made
  held (step.Done tokens) c = by_answer (Ok tokens) (tokens_answer device_error_response_of token_of r tokens c)
  held step.Pending c = answers (ServerResponse c.error) c.says ∙ ap (λ word. step_on word c.error) c.own_word
  held step.SlowDown c = answers (ServerResponse c.error) c.says ∙ ap (λ word. step_on word c.error) c.own_word

pub steps : {TR : Type 0} (token_of : List SeenMember → Result TR Refusal) → IsJudge (PollCause token_of) (StepCause token_of) (poll_answer token_of)
steps token_of = record {
  rests = λ r. rests token_of r;
  refused = λ r e c. refused token_of r e c;
  held = λ r made c. held token_of r made c;
  no_fault = λ r u c. c.cause;
  no_address = λ r c. c.cause;
  no_memory = λ r c. c.cause;
}
