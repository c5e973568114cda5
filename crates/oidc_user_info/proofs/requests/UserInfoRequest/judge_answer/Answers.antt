use Rattle.oidc_oauth2.proofs.Runs.{no_fault}
use Rattle.oidc_user_info.specs.InfoErrors.{is_fault}
use Rattle.oidc_user_info.proofs.Unblamed.{unblamed}
use Rattle.oidc_user_info.proofs.requests.UserInfoRequest.judge_answer.Goals as goal

pub returns-in-Ok-clause-fault : goal.returns-in-Ok-clause-fault
returns-in-Ok-clause-fault g c = no_fault _ is_fault _ (unblamed _ _ _ _ c.answer.ensures.answer)
