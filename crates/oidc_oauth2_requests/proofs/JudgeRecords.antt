-- The judge of answers that are records.
use Rattle.std.specs.Prelude.{List, Result, Ok, Err}
use Rattle.oidc_members.specs.Seen.{SeenMember}
use Rattle.oidc_members.specs.declared.refusal.Refusal.{Refusal}
use Rattle.oidc_oauth2.specs.Messages.{SeenResponse}
use Rattle.oidc_oauth2.specs.TokenAnswers.{TokenRefusal, token_answer}
use Rattle.oidc_oauth2.specs.AnswerCauses.{AnswerCause, IsTokenAnswer}
use Rattle.oidc_oauth2.proofs.Theorems.{AnswerRests, answer-rests, tokens_answer, refused_answer}
use Rattle.oidc_oauth2_requests.proofs.Judges.{Rests, IsJudge}

module _ {TE A : Type 0} (error_of : List SeenMember → Result TE Refusal) (read_of : List SeenMember → Result A Refusal) where
  rests : (r : SeenResponse) (reply : Result A (TokenRefusal TE)) → AnswerRests error_of read_of r reply
      → Rests (AnswerCause error_of read_of) (IsTokenAnswer error_of read_of) r reply
  rests r (Ok value) known = known
  rests r (Err e) known = known

  pub records : IsJudge (AnswerCause error_of read_of) (IsTokenAnswer error_of read_of) (token_answer error_of read_of)
  records = record {
    rests = λ r. rests r (token_answer error_of read_of r) (answer-rests error_of read_of r);
    refused = λ r e c. refused_answer error_of read_of r e c;
    held = λ r value c. tokens_answer error_of read_of r value c;
    no_fault = λ r u c. c.cause;
    no_address = λ r c. c.cause;
    no_memory = λ r c. c.cause;
  }
