-- What crates above may cite: a transport that plays a script gives what the script gives; a callback sends at most two
-- requests; user info that an answer holds is what the answer is worth; and where all additional claims are kept, those of
-- a user who is signed in hold no float.
use Rattle.std.proofs.Common.{◌≡◌, ◌≤◌, ℕ, ℤ, zero, suc, List, [], ◌∷◌, Option, None, Some, Ok, Err, length, drop, refl, ap, ◌∙◌, arith}
use Rattle.oidc_oauth2.specs.Messages.{SeenAnswer}
use Rattle.oidc_oauth2.specs.Transport.{played, first_answer}
use Rattle.oidc_login.specs.Types.{SeenLoginClient, SiteTypes}
use Rattle.oidc_login.specs.Logins.{SeenLogin}
use Rattle.oidc_login.specs.SignedIn.{SeenSignedIn}
use Rattle.oidc_login.specs.Callback.{Attempt, Meant, SeenTaken, SeenPreparedInfo, taken_login, user_of_answer, prepared_info, demand_run, outcome}
use Rattle.oidc_login.specs.Steps.{prepared_run, taken_run}
use Rattle.oidc_login.specs.declared.types.UserInfoDemand.{UserInfoDemand}
pub use Rattle.oidc_login.proofs.NoFloat.{signed_free}
pub use Rattle.oidc_login.proofs.Found.{info_answered}
use Rattle.oidc_login.proofs.Drives.{at_most_two, sendable}
use Rattle.oidc_login.proofs.TokenRuns.{preceded_by, token_run}

-- answers that are the next ones of a script
abbrev IsPlayed : List SeenAnswer → List SeenAnswer → Type 0
IsPlayed answers script = answers ≡ played script (length answers)

first_played : (answers script : List SeenAnswer) (n : ℕ) → IsPlayed answers script → length answers ≡ suc n → first_answer answers ≡ first_answer script
first_played [] script n plays long = absurd (omega arith)
first_played (x ∷ later) script n plays long = ap first_answer plays

rest_played : (answers script : List SeenAnswer) (n : ℕ) → IsPlayed answers script → length answers ≡ suc n → IsPlayed (drop 1 answers) (drop 1 script)
rest_played [] script n plays long = absurd (omega arith)
rest_played (x ∷ later) script n plays long = ap (drop 1) plays

one_less : (answers : List SeenAnswer) (n : ℕ) → length answers ≡ suc n → length (drop 1 answers) ≡ n
one_less [] n long = absurd (omega arith)
one_less (x ∷ later) n long = omega arith

module _ {AC GC Key Use : Type 0} (types : SiteTypes AC GC Key Use) where
  asked_by : (user : SeenSignedIn AC GC) (m : Meant (SeenPreparedInfo Key)) (answers script : List SeenAnswer) → IsPlayed answers script
      → length answers ≡ length (prepared_run types user answers m).sent → prepared_run types user answers m ≡ prepared_run types user script m
  asked_by user (Err e) answers script plays all = refl
  asked_by user (Ok asked) answers script plays all =
      ap (λ (x : SeenAnswer). prepared_run types user (x ∷ []) (Ok asked)) (first_played answers script zero plays all)

  info_by : (client : SeenLoginClient Key) (demand : Option UserInfoDemand) (user : SeenSignedIn AC GC) (answers script : List SeenAnswer) → IsPlayed answers script
      → length answers ≡ length (demand_run types client demand user answers).sent → demand_run types client demand user answers ≡ demand_run types client demand user script
  info_by client None user answers script plays all = refl
  info_by client (Some demand) user answers script plays all = asked_by user (prepared_info client demand user) answers script plays all

  token_by : (client : SeenLoginClient Key) (login : SeenLogin) (m : Meant (SeenSignedIn AC GC)) (answers script : List SeenAnswer) → IsPlayed answers script
      → length answers ≡ length (token_run types client login answers m).sent → token_run types client login answers m ≡ token_run types client login script m
  token_by client login (Err e) answers script plays all = refl
  token_by client login (Ok user) answers script plays all = info_by client login.user_info user answers script plays all

  opened_by : (client : SeenLoginClient Key) (now : ℤ) (m : Meant SeenTaken) (answers script : List SeenAnswer) → IsPlayed answers script
      → length answers ≡ length (taken_run types client now answers m).sent → taken_run types client now answers m ≡ taken_run types client now script m
  opened_by client now (Err e) answers script plays all = refl
  opened_by client now (Ok o) answers script plays all =
      let later = token_run types client o.login (drop 1 answers) (user_of_answer types client now o.login (first_answer answers)) in
      ap (preceded_by o.request)
      (token_by client o.login (user_of_answer types client now o.login (first_answer answers)) (drop 1 answers) (drop 1 script)
      (rest_played answers script (length later.sent) plays all) (one_less answers (length later.sent) all)
      ∙ ap (λ x. token_run types client o.login (drop 1 script) (user_of_answer types client now o.login x)) (first_played answers script (length later.sent) plays all))

  -- answers that are the next ones of a script, one for each request, give what the script gives
  pub outcome-of_script : (a : Attempt Key) (answers script : List SeenAnswer) → answers ≡ played script (length answers)
      → length answers ≡ length (outcome types a answers).sent → outcome types a answers ≡ outcome types a script
  outcome-of_script a answers script plays all = opened_by a.client a.now (taken_login a.client a.pending a.query) answers script plays all

  -- a callback sends at most two requests
  pub few_sent : (a : Attempt Key) (answers : List SeenAnswer) → length (outcome types a answers).sent ≤ 2
  few_sent a answers = at_most_two types a answers (outcome types a answers).sent (sendable types a answers)
