-- What a request for user info leaves of any transport, and what its reply rests on.
use Rattle.std.specs.Prelude.{List, Result, Ok, Err, IfOk, IfErr}
use Rattle.oidc_oauth2.specs.Messages.{SeenRequest, SeenAnswer}
use Rattle.oidc_oauth2.specs.Replies.{◌or_as◌, OrMemory, Gives}
use Rattle.oidc_oauth2.specs.Exchanges.{Known, Run, reply_by, one_request, Follows}
use Rattle.oidc_user_info.specs.UserInfoClaims.{SeenUserInfoClaims}
use Rattle.oidc_user_info.specs.InfoErrors.{InfoRefusal, Meant, seen_refusal, info_errors}
use Rattle.oidc_user_info.specs.InfoAnswers.{Readers, Demand, info_answer}
use Rattle.oidc_user_info.specs.InfoRequests.{SeenInfoRequest, info_request}
use Rattle.oidc_user_info.specs.InfoCauses.{IsUserInfo, Cause}
use Rattle.oidc_user_info.specs.declared.errors.InfoOther.TheVariants as other
use Rattle.oidc_user_info.specs.declared.errors.PrepareInfoError.{PrepareInfoError}
use Rattle.oidc_user_info.specs.declared.errors.PrepareInfoError.TheVariants.{Bearer, Uri, Memory}
use Rattle.oidc_user_info.specs.declared.errors.UserInfoError.{UserInfoError}
use Rattle.oidc_user_info.specs.declared.errors.UserInfoError.TheVariants as error

-- the refusal of a request that isn't made
abbrev pub unmade : PrepareInfoError → InfoRefusal
unmade Bearer = error.Other other.Bearer
unmade Uri = error.Other other.Uri
unmade Memory = error.Memory

module _ {AC GC JE Key Use Algorithm Type' : Type 0} (r : Readers AC GC JE Key Use Algorithm Type') where
  -- the reply by the answer to a request
  abbrev pub reply_of : Demand Key → SeenAnswer → Meant (SeenUserInfoClaims AC GC)
  reply_of demand answer = reply_by (error.Request tt) (info_answer r demand) answer

  -- the run of the request that is made, or why none is
  abbrev pub run_of : Demand Key → Result SeenRequest PrepareInfoError → List SeenAnswer
      → Run (SeenUserInfoClaims AC GC) InfoRefusal
  run_of demand made = one_request (reply_of demand) (made or_as unmade)

  abbrev pub info_run : SeenInfoRequest Key → List SeenAnswer → Run (SeenUserInfoClaims AC GC) InfoRefusal
  info_run ask = run_of ask.demand (info_request ask)

  abbrev pub reply : SeenInfoRequest Key → List SeenAnswer → Meant (SeenUserInfoClaims AC GC)
  reply ask answers = (info_run ask answers).reply

  -- what the one request leaves, and what the result rests on by the answers that came
  pub record RanInfoRequest {RE : Type 0} (ask : SeenInfoRequest Key) (old new : Known)
      (result : Result (SeenUserInfoClaims AC GC) (UserInfoError RE)) : Type 0 where
    pub exchanged : Follows info_errors (info_run ask) old new result
    -- each refusal has its cause, and each cause its refusal
    pub cause : IfErr result (λ e. OrMemory info_errors result (Cause ask exchanged.answers r (seen_refusal e)))
    pub refused : (e : InfoRefusal) → Cause ask exchanged.answers r e → Gives info_errors result (Err e)
    -- an Ok has the claims that the answer holds, and claims that it holds are an Ok
    pub held : IfOk result (IsUserInfo ask exchanged.answers r)
    pub holds : (found : SeenUserInfoClaims AC GC) → IsUserInfo ask exchanged.answers r found
        → Gives info_errors result (Ok found)
