use Rattle.oidc_login.proofs.InfoAnswers.{info_given, info_refusal_given, info_no_fault, of_info_spent}
use Rattle.oidc_login.proofs.callback.user_info.info_of.Goals as goal

pub returns-in-Ok-clause-gives : goal.returns-in-Ok-clause-gives
returns-in-Ok-clause-gives g c = info_given _ _ _ _ c.in-Ok.ensures.answer

pub returns-clause-gives : goal.returns-clause-gives
returns-clause-gives g c = rw c.of_info.ensures (info_refusal_given _ _ _ _ c.in-Err.ensures.answer)

pub returns-clause-no_fault : goal.returns-clause-no_fault
returns-clause-no_fault g c = rw c.of_info.ensures (info_no_fault _ _ _ _ c.in-Err.ensures.answer)

pub returns-clause-spent : goal.returns-clause-spent
returns-clause-spent g c = rw c.of_info.ensures (of_info_spent _)
