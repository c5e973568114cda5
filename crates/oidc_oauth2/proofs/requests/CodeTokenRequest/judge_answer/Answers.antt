use Rattle.oidc_oauth2.specs.TokenAnswers.{is_fault}
use Rattle.oidc_oauth2.proofs.Runs.{no_fault}
use Rattle.oidc_oauth2.proofs.Theorems.{token_answer-unblamed}
use Rattle.oidc_oauth2.proofs.requests.CodeTokenRequest.judge_answer.Goals as goal

pub returns-in-Ok-clause-fault : goal.returns-in-Ok-clause-fault
returns-in-Ok-clause-fault g c = no_fault _ is_fault _ (token_answer-unblamed _ _ _ _ _ _ c.token_answer.ensures.answer)
