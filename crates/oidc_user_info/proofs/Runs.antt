-- What a request for user info leaves of a transport, by the reply of the table.
use Rattle.std.proofs.Common.{◌≡◌, List, refl, sym, ap, subst}
use Rattle.std.specs.Prelude.{Result, Ok, Err, IfOk, IfErr}
use Rattle.oidc_oauth2.specs.Messages.{SeenRequest, SeenAnswer}
use Rattle.oidc_oauth2.specs.Replies.{◌or_as◌, OrMemory, Gives}
use Rattle.oidc_oauth2.specs.Exchanges.{Known, Exchanged, Untouched, Follows}
use Rattle.oidc_oauth2.proofs.Runs as runs
use Rattle.oidc_user_info.specs.UserInfoClaims.{SeenUserInfoClaims}
use Rattle.oidc_user_info.specs.InfoErrors.{Meant, seen_refusal, info_errors}
use Rattle.oidc_user_info.specs.InfoAnswers.{Readers}
use Rattle.oidc_user_info.specs.InfoRequests.{SeenInfoRequest, info_request}
use Rattle.oidc_user_info.specs.InfoCauses.{IsUserInfo, Cause}
use Rattle.oidc_user_info.specs.InfoRuns.{unmade, reply_of, info_run, reply, RanInfoRequest}
use Rattle.oidc_user_info.specs.declared.errors.PrepareInfoError.{PrepareInfoError}
use Rattle.oidc_user_info.specs.declared.errors.UserInfoError.{UserInfoError}
use Rattle.oidc_user_info.specs.declared.errors.UserInfoError.TheVariants.{ClaimsVerification, Parse, Request, Response, Other, TooLong, Memory}
use Rattle.oidc_user_info.proofs.Rows.{NeverWants, Rests, rests, holds_reply, refused_reply}

module _ {AC GC JE Key Use Algorithm Type' : Type 0} (r : Readers AC GC JE Key Use Algorithm Type') (ask : SeenInfoRequest Key) (RE : Type 0) where
  abbrev Claims : Type 0
  Claims = SeenUserInfoClaims AC GC

  abbrev Answer : Type 0
  Answer = Result Claims (UserInfoError RE)

  abbrev GivenBy : Answer → Meant Claims → Type 0
  GivenBy result meant = Gives info_errors result meant

  module _ (answers : List SeenAnswer) (never : NeverWants r) where
    -- a result that is the reply rests on what that does
    cause_of : (result : Answer) → GivenBy result (reply r ask answers) → IfErr result (λ e. OrMemory info_errors result (Cause ask answers r (seen_refusal e)))
    cause_of (Ok found) g = tt
    cause_of (Err (ClaimsVerification kind)) g = subst (Rests r ask answers) g (rests r ask answers never)
    cause_of (Err (Parse refusal)) g = subst (Rests r ask answers) g (rests r ask answers never)
    cause_of (Err (Request e)) g = subst (Rests r ask answers) g (rests r ask answers never)
    cause_of (Err (Response status body cause)) g = subst (Rests r ask answers) g (rests r ask answers never)
    cause_of (Err (Other cause)) g = subst (Rests r ask answers) g (rests r ask answers never)
    cause_of (Err (TooLong body)) g = subst (Rests r ask answers) g (rests r ask answers never)
    cause_of (Err Memory) g = tt

    held_of : (result : Answer) → GivenBy result (reply r ask answers) → IfOk result (IsUserInfo ask answers r)
    held_of (Ok found) g = subst (Rests r ask answers) g (rests r ask answers never)
    held_of (Err e) g = tt

  module _ (never : NeverWants r) where
    -- what was exchanged rests on what the reply does
    ran : (old new : Known) (result : Answer) → Follows info_errors (info_run r ask) old new result → RanInfoRequest r ask old new result
    ran old new result e = record {
      exchanged = e;
      cause = cause_of e.answers never result e.reply;
      refused = λ refusal cause. subst (GivenBy result) (refused_reply r ask e.answers refusal cause) e.reply;
      held = held_of e.answers never result e.reply;
      holds = λ found held. subst (GivenBy result) (holds_reply r ask e.answers found held) e.reply;
    }

    -- no request is made
    pub ran_unmade : (e : PrepareInfoError) → info_request ask ≡ Err e → (known : Known) (result : Answer) → GivenBy result (Err (unmade e)) → RanInfoRequest r ask known known result
    ran_unmade e is known result gives =
        ran known known result (runs.unmade info_errors (reply_of r ask.demand) (info_request ask or_as unmade) (unmade e) (ap (λ made. made or_as unmade) is) known result gives)

    -- there was no memory to make it, or to hand it over
    pub ran_unsent : (old new : Known) (result : Answer) → result ≡ Err Memory → Untouched old new → RanInfoRequest r ask old new result
    ran_unsent old new result is kept =
        ran old new result (subst (λ (answer : Answer). Follows info_errors (info_run r ask) old new answer) (sym is) (runs.memory_first info_errors (info_run r ask) old new Memory refl kept))

    -- the request took this answer
    pub ran_answered : (request : SeenRequest) → info_request ask ≡ Ok request → (old new : Known) (answer : SeenAnswer) (result : Answer) → Exchanged old new request answer → GivenBy result (reply_of r ask.demand answer)
        → RanInfoRequest r ask old new result
    ran_answered request is old new answer result sent gives =
        ran old new result (runs.answered info_errors (reply_of r ask.demand) (info_request ask or_as unmade) request (ap (λ made. made or_as unmade) is) old new answer result sent gives)
