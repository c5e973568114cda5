-- User info that an answer holds is what the answer is worth.
use Rattle.std.proofs.Common.{◌≡◌, List, drop, Ok}
use Rattle.oidc_oauth2.specs.Messages.{SeenAnswer}
use Rattle.oidc_user_info.specs.UserInfoClaims.{SeenUserInfoClaims}
use Rattle.oidc_user_info.specs.InfoAnswers.{info_answer}
use Rattle.oidc_login.specs.Types.{SiteTypes}
use Rattle.oidc_login.specs.Callback.{Attempt}
use Rattle.oidc_login.specs.Causes.{Held, HoldsInfo}
use Rattle.oidc_login.proofs.InfoAnswers.{found_back}

module _ {AC GC Key Use : Type 0} (types : SiteTypes AC GC Key Use) (a : Attempt Key) (answers : List SeenAnswer) where
  pub info_answered : (h : Held AC GC) (found : SeenUserInfoClaims AC GC) (x : HoldsInfo types a answers h found) → info_answer types x.ask.demand x.response ≡ Ok found
  info_answered h found x =
      let asked = x.answered.asked in
      found_back types x.ask (drop 1 answers) x.answered.request asked.request_made x.response x.answered.response_came found x.info_held
