-- The lines of callbacks, and what their refusals leave.
use Rattle.std.proofs.Common.{◌≡◌, ℕ, suc, take, None, Some, subst, ◌+◌, ◌<◌, List, [], ◌++◌, drop, length, get_or, Result, Ok, Err, IfOk, OnOk, IfErr, Bool, true, false, refl, sym, ap, ◌∙◌, add-one, drop-cons}
use Rattle.std.proofs.Math.Seq.{take-length}
use Rattle.oidc_oauth2.specs.Messages.{SeenRequest, SeenAnswer}
use Rattle.oidc_oauth2.specs.Transport.{Log, log_after, Plays, in_order}
use Rattle.oidc_keys.specs.CoreJwk.{SymmetricKey}
use Rattle.oidc_oauth2.specs.Replies.{Unless, OrMemory}
use Rattle.oidc_login.specs.Errors.{Error, login_errors, seen_reply, wants_memory}
use Rattle.oidc_oauth2.specs.Exchanges.{Known, Run}
use Rattle.oidc_login.specs.Callback.{Attempt, outcome}
use Rattle.oidc_login.specs.Runs.{Ran, handed_over}
use Rattle.oidc_oauth2.proofs.Theorems.{played_next}
use Rattle.oidc_login.proofs.Theorems.{outcome-of_script}
use Rattle.oidc_login.specs.declared.errors.LoginError.{LoginError}
use Rattle.oidc_login.specs.declared.errors.LoginError.TheVariants as login
use Rattle.oidc_cli.specs.Types.{types, SeenSignedIn}
use Rattle.oidc_cli.specs.Report.{request_line, request_lines}

pub lines_at : (requests : List SeenRequest) (i : ℕ) (request : SeenRequest) → i < length requests → request ≡ get_or requests i request
    → request_lines (drop i requests) ≡ request_line request ++ request_lines (drop (i + 1) requests)
lines_at requests i request within is =
    rw add-one
    (ap request_lines (drop-cons requests i request within)
    ∙ ap (λ r. request_line r ++ request_lines (drop (suc i) requests)) (sym is))

-- ---- a callback over a transport in memory

-- a refusal that isn't want of memory
pub no_memory : {E : Type 0} (refusal : LoginError E) → ((spent : Bool) → refusal ≡ login.Memory spent → ⊥) → wants_memory refusal ≡ false
no_memory (login.TooLong place) memory = refl
no_memory login.State memory = refl
no_memory (login.Provider code) memory = refl
no_memory login.Callback memory = refl
no_memory (login.Token e) memory = refl
no_memory login.NoIdToken memory = refl
no_memory (login.Claims kind) memory = refl
no_memory (login.Signing refusal) memory = refl
no_memory login.TokenHash memory = refl
no_memory (login.UserInfo e) memory = refl
no_memory (login.Memory spent) memory = absurd (memory spent refl)

unless_wanted : (wants : Bool) (P : Type 0) → wants ≡ false → Unless wants P → P
unless_wanted false P none fact = fact
unless_wanted true P none fact = absurd cc

-- what holds or else there was no memory
pub holds : {A E : Type 0} (result : Result A (LoginError E)) (P : Type 0) → IfErr result (λ e. wants_memory e ≡ false) → OrMemory login_errors result P → P
holds (Ok x) P memory fact = fact
holds (Err e) P memory fact = unless_wanted (wants_memory e) P memory fact

-- what follows of a reply that there was memory for
pub if_replied : {A E : Type 0} (r : Result A E) {P : A → Type 0} {M : Type 0} (Q : A → Type 0) → IfOk r P → OnOk r M → ((x : A) → P x → M → Q x) → IfOk r Q
if_replied (Ok x) Q is memory f = f x is memory
if_replied (Err e) Q is memory f = tt

pub on_replied : {A E : Type 0} (r : Result A E) {M : Type 0} (F : Type 0) → OnOk r M → (M → F) → OnOk r F
on_replied (Ok x) F memory f = f memory
on_replied (Err e) F memory f = tt

module _ {E : Type 0} (a : Attempt SymmetricKey) (old new : Known) (result : Result SeenSignedIn (LoginError E)) (ran : Ran types a old new result) (script : List SeenAnswer) where
  same : old.script ≡ Some (in_order script) → length ran.exchanged.answers ≡ length (outcome types a ran.exchanged.answers).sent → outcome types a ran.exchanged.answers ≡ outcome types a script
  same is all =
      let x = ran.exchanged in
      let sent = (outcome types a x.answers).sent in
      let plays = subst (λ s. Plays s (take (length x.answers) sent) x.answers new.script) is x.plays in
      outcome-of_script types a x.answers script
      (played_next script (take (length x.answers) sent) x.answers new.script plays (ap (λ n. length (take n sent)) all ∙ ap length (take-length sent) ∙ sym all)) all

  -- the reply and the requests are those that the script gives
  pub recorded_reply : old.script ≡ Some (in_order script) → length ran.exchanged.answers ≡ length (outcome types a ran.exchanged.answers).sent
      → (outcome types a ran.exchanged.answers).reply ≡ seen_reply result → seen_reply result ≡ (outcome types a script).reply
  recorded_reply is all reply = sym reply ∙ ap (λ (r : Run SeenSignedIn Error). r.reply) (same is all)

  pub recorded_sent : (log : Log) → old.script ≡ Some (in_order script) → old.log ≡ Some (record { requests = []; answers = [] }) → new.log ≡ Some log
      → length ran.exchanged.answers ≡ length (outcome types a ran.exchanged.answers).sent → log.requests ≡ (outcome types a script).sent
  recorded_sent log is none logged all =
      let same_log : Some log ≡ log_after (Some (record { requests = []; answers = [] })) (handed_over types a ran.exchanged.answers) ran.exchanged.answers =
      sym logged ∙ ran.exchanged.logged ∙ ap (λ l. log_after l (handed_over types a ran.exchanged.answers) ran.exchanged.answers) none in
      ap (λ l. elim l as (λ _. List SeenRequest) [ None ↦ [] | Some x ↦ x.requests ]) same_log
      ∙ ap (λ n. take n (outcome types a ran.exchanged.answers).sent) all
      ∙ take-length (outcome types a ran.exchanged.answers).sent
      ∙ ap (λ (r : Run SeenSignedIn Error). r.sent) (same is all)
