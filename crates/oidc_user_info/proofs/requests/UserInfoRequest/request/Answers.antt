use Rattle.std.proofs.Common.{rules, refl}
use Rattle.oidc_oauth2.proofs.Runs.{left_alone, blamed_by}
use Rattle.oidc_user_info.specs.InfoErrors.{is_fault}
use Rattle.oidc_user_info.specs.declared.errors.PrepareInfoError.TheVariants.{Bearer, Uri}
use Rattle.oidc_user_info.proofs.Runs.{ran_unmade, ran_unsent, ran_answered}
use Rattle.oidc_user_info.proofs.requests.UserInfoRequest.request.Goals as goal

pub returns-in-Err-Bearer-clause-ran : goal.returns-in-Err-Bearer-clause-ran
returns-in-Err-Bearer-clause-ran g c = ran_unmade _ _ _ g.met.K.JsonWebKey.verdict_is_never_memory Bearer (search rules) _ _ refl

pub returns-in-Err-Uri-clause-ran : goal.returns-in-Err-Uri-clause-ran
returns-in-Err-Uri-clause-ran g c = ran_unmade _ _ _ g.met.K.JsonWebKey.verdict_is_never_memory Uri (search rules) _ _ refl

pub returns-in-Err-Memory-clause-ran : goal.returns-in-Err-Memory-clause-ran
returns-in-Err-Memory-clause-ran g c = ran_unsent _ _ _ g.met.K.JsonWebKey.verdict_is_never_memory _ _ _ refl (left_alone _)

pub returns-in_err-came-in-Ok-clause-ran : goal.returns-in_err-came-in-Ok-clause-ran
returns-in_err-came-in-Ok-clause-ran g c = ran_unsent _ _ _ g.met.K.JsonWebKey.verdict_is_never_memory _ _ _ (search rules) c.in_err-came-in-Ok.ensures.exchanged

pub returns-clause-ran : goal.returns-clause-ran
returns-clause-ran g c =
    ran_answered _ _ _ g.met.K.JsonWebKey.verdict_is_never_memory c.in-Ok.request (search rules) _ _ _ _ c.in_ok-came-in-Ok.ensures.exchanged c.judge_answer.ensures.gives

pub returns-clause-blamed : goal.returns-clause-blamed
returns-clause-blamed g c = blamed_by is_fault _ c.in_ok-came-in-Ok.ensures.blamed c.judge_answer.ensures.fault
