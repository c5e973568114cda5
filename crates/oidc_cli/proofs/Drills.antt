-- The turns of a drill: how their counts add up, and what the replies to them count as.
use Rattle.std.proofs.Common.{subst, ◌≡◌, ℕ, suc, ◌+◌, ◌-◌, ◌*◌, ◌<◌, ◌≤◌, List, [], ◌∷◌, ◌++◌, Result, Ok, Err, Bool, true, false, refl, sym, ap, ◌∙◌, arith}
use Rattle.std.specs.Prelude.{is_ok}
use Rattle.std.specs.FinMap as finite
use Rattle.oidc_login.specs.Logins.{Pending}
use Rattle.oidc_login.specs.Errors.{seen_reply}
use Rattle.oidc_login.specs.Events as runs
use Rattle.oidc_login.specs.declared.errors.LoginError.{LoginError}
use Rattle.oidc_login.specs.declared.errors.LoginError.TheVariants as login
use Rattle.oidc_login.proofs.Theorems.{few_sent}
use Rattle.oidc_cli.specs.Types.{types, SeenScriptClient, SeenSignedIn}
use Rattle.oidc_cli.specs.Logins.{call_of_line}
use Rattle.oidc_cli.specs.Report.{Step}
use Rattle.oidc_cli.specs.Drill.{plus, no_counts, tally_of, added_by, event_of_turn, numbers, begin_turns, callback_turns, drill_client, drill_tally, drill_store, one_if, is_begun, is_signed_in, is_refused_as_state, callback_line, answer}
use Rattle.oidc_cli.specs.Steps.{steps_of_turns, store_after_turns, is_state, IsWithin}
use Rattle.oidc_cli.specs.declared.drill.turns.Turn.{Turn}
use Rattle.oidc_cli.specs.declared.drill.turns.Turn.TheVariants.{Begin, First, Again}
use Rattle.oidc_cli.specs.declared.drill.turns.Tally.{Tally}

-- ---- counts

same_tally : (a b : Tally) → a.begun ≡ b.begun → a.signed ≡ b.signed → a.repeated ≡ b.repeated → a.sent ≡ b.sent → a ≡ b
same_tally a b begun signed repeated sent = λ i. record { begun = begun i; signed = signed i; repeated = repeated i; sent = sent i }

added_thrice : (x y z : ℕ) → (x + y) + z ≡ x + (y + z)
added_thrice x y z = omega arith

pub plus_twice : (a b c : Tally) → plus (plus a b) c ≡ plus a (plus b c)
plus_twice a b c =
    same_tally _ _ (added_thrice a.begun b.begun c.begun) (added_thrice a.signed b.signed c.signed) (added_thrice a.repeated b.repeated c.repeated)
    (added_thrice a.sent b.sent c.sent)

nothing_added : (x : ℕ) → x + 0 ≡ x
nothing_added x = omega arith

added_to_nothing : (x : ℕ) → 0 + x ≡ x
added_to_nothing x = omega arith

pub plus_nothing : (a : Tally) → plus a no_counts ≡ a
plus_nothing a = same_tally _ _ (nothing_added a.begun) (nothing_added a.signed) (nothing_added a.repeated) (nothing_added a.sent)

pub nothing_plus : (a : Tally) → plus no_counts a ≡ a
nothing_plus a = same_tally _ _ (added_to_nothing a.begun) (added_to_nothing a.signed) (added_to_nothing a.repeated) (added_to_nothing a.sent)

-- ---- turns after others

module _ (client : SeenScriptClient) where
  pub store_append : (pending : Pending) (a b : List Turn) → store_after_turns client pending (a ++ b) ≡ store_after_turns client (store_after_turns client pending a) b
  store_append pending [] b = refl
  store_append pending (turn ∷ a) b = store_append (runs.step types client pending (event_of_turn turn)).pending a b

  pub tally_append : (pending : Pending) (a b : List Turn)
      → tally_of (steps_of_turns client pending (a ++ b)) ≡ plus (tally_of (steps_of_turns client pending a)) (tally_of (steps_of_turns client (store_after_turns client pending a) b))
  tally_append pending [] b = sym (nothing_plus (tally_of (steps_of_turns client pending b)))
  tally_append pending (turn ∷ a) b =
      let step = runs.step types client pending (event_of_turn turn) in
      ap (plus (added_by turn step)) (tally_append step.pending a b)
      ∙ sym (plus_twice (added_by turn step) (tally_of (steps_of_turns client step.pending a)) (tally_of (steps_of_turns client (store_after_turns client step.pending a) b)))

-- ---- their numbers

all_left : (count : ℕ) → count - 0 ≡ count
all_left count = omega arith

pub numbers_start : (count : ℕ) → numbers (0 + 1) (count - 0) ≡ numbers 1 count
numbers_start count = ap (numbers 1) (all_left count)

one_less : (place count : ℕ) → place < count → count - place ≡ suc (count - (place + 1))
one_less place count within = omega arith

pub numbers_next : (place count : ℕ) → place < count → numbers (place + 1) (count - place) ≡ (place + 1) ∷ numbers (place + 1 + 1) (count - (place + 1))
numbers_next place count within = ap (numbers (place + 1)) (one_less place count within)

none_left : (count : ℕ) → count - count ≡ 0
none_left count = omega arith

pub numbers_end : (i count : ℕ) → numbers i (count - count) ≡ []
numbers_end i count = ap (numbers i) (none_left count)

-- ---- what a callback counts as

pub signed_as : {E : Type 0} (reply : Result SeenSignedIn (LoginError E)) → is_ok reply ≡ is_signed_in (runs.called (seen_reply reply))
signed_as (Ok user) = refl
signed_as (Err e) = refl

pub repeated_as : {E : Type 0} (reply : Result SeenSignedIn (LoginError E)) → is_state reply ≡ is_refused_as_state (runs.called (seen_reply reply))
repeated_as (Ok user) = refl
repeated_as (Err (login.TooLong at)) = refl
repeated_as (Err login.State) = refl
repeated_as (Err (login.Provider code)) = refl
repeated_as (Err login.Callback) = refl
repeated_as (Err (login.Token e)) = refl
repeated_as (Err login.NoIdToken) = refl
repeated_as (Err (login.Claims kind)) = refl
repeated_as (Err (login.Signing e)) = refl
repeated_as (Err login.TokenHash) = refl
repeated_as (Err (login.UserInfo e)) = refl
repeated_as (Err (login.Memory spent)) = refl

-- ---- how much a turn adds

at_most_one : (holds : Bool) → one_if holds ≤ 2
at_most_one true = omega arith
at_most_one false = omega arith

none_at_most : 0 ≤ 2
none_at_most = omega arith

pub few_added : (client : SeenScriptClient) (pending : Pending) (turn : Turn) → IsWithin 2 (added_by turn (runs.step types client pending (event_of_turn turn)))
few_added client pending (Begin i) =
    (at_most_one (is_begun (runs.step types client pending (event_of_turn (Begin i))).reply), none_at_most, none_at_most, none_at_most)
few_added client pending (First i) = (
  none_at_most,
  at_most_one (is_signed_in (runs.step types client pending (event_of_turn (First i))).reply),
  none_at_most,
  few_sent types (runs.called_with client pending (call_of_line (callback_line i (answer i ∷ [])))) (answer i ∷ []),
)
few_added client pending (Again i) = (
  none_at_most,
  none_at_most,
  at_most_one (is_refused_as_state (runs.step types client pending (event_of_turn (Again i))).reply),
  few_sent types (runs.called_with client pending (call_of_line (callback_line i []))) [],
)

-- ---- one more turn

within_more : (n m k : ℕ) (a b c : Tally) → c ≡ plus a b → IsWithin n a → IsWithin m b → n + m ≤ k → IsWithin k c
within_more n m k a b c is few more far =
    subst (IsWithin k) (sym is) (
      let begun = few.0 in let more_begun = more.0 in omega arith,
      let signed = few.1 in let more_signed = more.1 in omega arith,
      let repeated = few.2 in let more_repeated = more.2 in omega arith,
      let sent = few.3 in let more_sent = more.3 in omega arith,
    )

module _ (pending new : Pending) (turn : Turn) (tally more after : Tally) (later : List Turn) where
  abbrev taken : Step
  taken = runs.step types drill_client pending (event_of_turn turn)

  -- the counts with a turn, and those of the turns behind it, are those of all
  pub turn_counted : more ≡ added_by turn taken → new ≡ taken.pending → after ≡ plus tally more
      → plus after (tally_of (steps_of_turns drill_client new later)) ≡ plus tally (tally_of (steps_of_turns drill_client pending (turn ∷ later)))
  turn_counted counts store added =
      (λ i. plus (added i) (tally_of (steps_of_turns drill_client (store i) later)))
      ∙ ap (λ m. plus (plus tally m) (tally_of (steps_of_turns drill_client taken.pending later))) counts
      ∙ plus_twice tally (added_by turn taken) (tally_of (steps_of_turns drill_client taken.pending later))

  pub turn_stored : new ≡ taken.pending → store_after_turns drill_client new later ≡ store_after_turns drill_client pending (turn ∷ later)
  turn_stored store = ap (λ m. store_after_turns drill_client m later) store

-- the numbers that are left, of which one is taken
module _ (place count : ℕ) (within : place < count) where
  abbrev rest : List ℕ
  rest = numbers (place + 1 + 1) (count - (place + 1))

  pub begins_left : begin_turns (numbers (place + 1) (count - place)) ≡ Begin (place + 1) ∷ begin_turns rest
  begins_left = ap begin_turns (numbers_next place count within)

  pub callbacks_left : callback_turns (numbers (place + 1) (count - place)) ≡ First (place + 1) ∷ Again (place + 1) ∷ callback_turns rest
  callbacks_left = ap callback_turns (numbers_next place count within)

pub two_more : (place : ℕ) (a b c : Tally) → c ≡ plus a b → IsWithin (2 * place) a → IsWithin 2 b → IsWithin (2 * (place + 1)) c
two_more place a b c is few more = within_more (2 * place) 2 (2 * (place + 1)) a b c is few more (omega arith)

pub four_more : (place : ℕ) (a b c d e : Tally) → c ≡ plus a b → e ≡ plus c d → IsWithin (4 * place) a → IsWithin 2 b → IsWithin 2 d → IsWithin (4 * (place + 1)) e
four_more place a b c d e once twice few more again =
    within_more (4 * place + 2) 2 (4 * (place + 1)) c d e twice (within_more (4 * place) 2 (4 * place + 2) a b c once few more (omega arith)) again (omega arith)

-- ---- all turns

-- the counts of the begins and those of the callbacks behind them
pub all_counted : (pending : Pending) (count : ℕ) (begun called all : Tally) → all ≡ plus begun called
    → begun ≡ tally_of (steps_of_turns drill_client finite.empty (begin_turns (numbers 1 count)))
    → pending ≡ store_after_turns drill_client finite.empty (begin_turns (numbers 1 count))
    → called ≡ tally_of (steps_of_turns drill_client pending (callback_turns (numbers 1 count)))
    → all ≡ drill_tally count
all_counted pending count begun called all is first store second =
    let begins = begin_turns (numbers 1 count) in
    let callbacks = callback_turns (numbers 1 count) in
    is ∙ (λ i. plus (first i) (second i))
    ∙ ap (λ m. plus (tally_of (steps_of_turns drill_client finite.empty begins)) (tally_of (steps_of_turns drill_client m callbacks))) store
    ∙ sym (tally_append drill_client finite.empty begins callbacks)

pub all_stored : (pending new : Pending) (count : ℕ)
    → pending ≡ store_after_turns drill_client finite.empty (begin_turns (numbers 1 count))
    → new ≡ store_after_turns drill_client pending (callback_turns (numbers 1 count))
    → new ≡ drill_store count
all_stored pending new count first second =
    let begins = begin_turns (numbers 1 count) in
    let callbacks = callback_turns (numbers 1 count) in
    second ∙ ap (λ m. store_after_turns drill_client m callbacks) first ∙ sym (store_append drill_client finite.empty begins callbacks)
