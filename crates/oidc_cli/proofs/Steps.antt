-- The report of a script, event by event.
use Rattle.std.proofs.Common.{◌≡◌, ℕ, ◌+◌, ◌-◌, ◌<◌, ◌≤◌, nat_lt, codes, length, map, take, List, [], ◌∷◌, ◌++◌, Option, None, Some, Bool, true, false, refl, sym, ap, ◌∙◌, arith, append_assoc}
use Rattle.std.specs.Prelude.{if◌then◌else◌}
use Rattle.std.specs.FinMap as finite
use Rattle.std.proofs.lemmas.Bool.{false≢true}
use Rattle.std.proofs.lemmas.Bool.Decides.{nat_tests}
use Rattle.std.proofs.lemmas.Grind.{common_steps}
use Rattle.oidc_login.specs.Logins.{Pending}
use Rattle.oidc_login.specs.Events as runs
use Rattle.oidc_cli.specs.Types.{types, SeenScriptClient}
use Rattle.oidc_cli.specs.Events.{SeenClientLine}
use Rattle.oidc_cli.specs.Script.{limit, lines, event_of, is_client, is_step, fault_from, fault_in, fault_of}
use Rattle.oidc_cli.specs.Report.{step_lines, pending_line, fault_line, steps_lines, events_lines, store_after_events, lines_before, last_line, report}
use Rattle.oidc_cli.specs.Logins.{client_of, login_event, before, login_events}
use Rattle.oidc_cli.specs.Steps.{lines_of_event, store_after_event, event_lines, store_after, rest_of_report}
use Rattle.oidc_cli.proofs.Cuts.{lines_nil}
use Rattle.oidc_cli.specs.declared.events.Event.{Event}
use Rattle.oidc_cli.specs.declared.events.Event.TheVariants.{Client, Begin, Callback}

-- ---- numbers of faults

same_number : (a b : ℕ) → Some a ≡ Some b → a ≡ b
same_number a b e = cc

no_number : (number : ℕ) → {A : Type 0} → None ≡ Some number → A
no_number number e = absurd cc

step_number : (step : Bool) (n : ℕ) (fault : Option ℕ) (number : ℕ) → (fault ≡ Some number → n + 1 ≤ number)
    → (if step then fault else Some n) ≡ Some number → n ≤ number
step_number true n fault number later e = let far = later e in omega arith
step_number false n fault number later e = let same = same_number n number e in omega arith

fault_from-least : (n : ℕ) (all : List (List ℕ)) (number : ℕ) → fault_from n all ≡ Some number → n ≤ number
fault_from-least n [] number e = no_number number e
fault_from-least n (line ∷ later) number e =
    step_number (is_step (event_of line)) n (fault_from (n + 1) later) number (fault_from-least (n + 1) later number) e

-- ---- lines before a fault

take-more : {A : Type 0} (n m : ℕ) (x : A) (xs : List A) → n + 1 ≤ m → take (m - n) (x ∷ xs) ≡ x ∷ take (m - (n + 1)) xs
take-more n m x xs far = let e : m - n ≡ (m - (n + 1)) + 1 = omega arith in rw e (grind (arith, common_steps))

lines_before-cons : (n : ℕ) (fault : Option ℕ) (line : List ℕ) (later : List (List ℕ)) → ((number : ℕ) → fault ≡ Some number → n + 1 ≤ number)
    → lines_before n fault (line ∷ later) ≡ line ∷ lines_before (n + 1) fault later
lines_before-cons n None line later far = refl
lines_before-cons n (Some number) line later far = take-more n number line later (far number refl)

lines_before-here : (n : ℕ) (all : List (List ℕ)) → lines_before n (Some n) all ≡ []
lines_before-here n all = let e : n - n ≡ 0 = omega arith in ap (λ k. take k all) e

-- ---- steps

-- the rest of a report from the events that are left, and the fault behind them
abbrev rest_from : SeenScriptClient → Pending → Option ℕ → List runs.Event → List ℕ
rest_from client pending fault events =
    steps_lines (runs.steps_from types client pending events) ++ last_line fault (runs.store_from types client pending events)

-- the lines of the first event come first
rest_before : (client : SeenScriptClient) (pending : Pending) (fault : Option ℕ) (event : Option runs.Event) (later : List runs.Event)
    → rest_from client pending fault (before event later)
    ≡ lines_of_event client pending event ++ rest_from client (store_after_event client pending event) fault later
rest_before client pending fault None later = refl
rest_before client pending fault (Some event) later =
    let next = runs.step types client pending event in
    append_assoc (step_lines next) (steps_lines (runs.steps_from types client next.pending later)) (last_line fault (runs.store_from types client next.pending later))

pub first_step : (client : SeenScriptClient) (pending : Pending) (n : ℕ) (event : Option Event) (all : List (List ℕ)) (line : List ℕ) (later : List (List ℕ))
    → all ≡ line ∷ later → event ≡ event_of line → is_step event ≡ true
    → (fault : Option ℕ) → fault_from n all ≡ fault
    → rest_of_report client pending n all fault
    ≡ event_lines client pending event ++ rest_of_report client (store_after client pending event) (n + 1) later fault
first_step client pending n event all line later cut read step fault first =
    let known : fault_from (n + 1) later ≡ fault =
    sym (ap (fault_from n) cut ∙ ap (λ t. if t then fault_from (n + 1) later else Some n) (ap is_step (sym read) ∙ step)) ∙ first in
    let steps = lines_before-cons n fault line later (λ number e. fault_from-least (n + 1) later number (known ∙ e)) in
    ap (λ l. rest_of_report client pending n l fault) cut
    ∙ ap (λ l. rest_from client pending fault (login_events client (map event_of l))) steps
    ∙ rest_before client pending fault (login_event client (event_of line)) (login_events client (map event_of (lines_before (n + 1) fault later)))
    ∙ ap (λ e. event_lines client pending e ++ rest_of_report client (store_after client pending e) (n + 1) later fault) (sym read)

-- the fault behind a step is that of the later lines
pub later_fault : (n : ℕ) (event : Option Event) (all : List (List ℕ)) (line : List ℕ) (later : List (List ℕ))
    → all ≡ line ∷ later → event ≡ event_of line → is_step event ≡ true → fault_from n all ≡ fault_from (n + 1) later
later_fault n event all line later cut read step =
    ap (fault_from n) cut ∙ ap (λ t. if t then fault_from (n + 1) later else Some n) (ap is_step (sym read) ∙ step)

pub fault_here : (n : ℕ) (event : Option Event) (all : List (List ℕ)) (line : List ℕ) (later : List (List ℕ))
    → all ≡ line ∷ later → event ≡ event_of line → is_step event ≡ false → fault_from n all ≡ Some n
fault_here n event all line later cut read fault =
    ap (fault_from n) cut ∙ ap (λ t. if t then fault_from (n + 1) later else Some n) (ap is_step (sym read) ∙ fault)

-- what is no step has no lines
no_lines : (client : SeenScriptClient) (pending : Pending) (event : Option Event) → is_step event ≡ false → event_lines client pending event ≡ []
no_lines client pending None other = refl
no_lines client pending (Some (Client line)) other = refl
no_lines client pending (Some (Begin line)) other = absurd (false≢true (sym other))
no_lines client pending (Some (Callback line)) other = absurd (false≢true (sym other))

-- at a fault the rest of a report is its line
pub rest_at_fault : (client : SeenScriptClient) (pending : Pending) (n : ℕ) (event : Option Event) (all : List (List ℕ)) → is_step event ≡ false
    → (fault : Option ℕ) → fault ≡ Some n → rest_of_report client pending n all fault ≡ event_lines client pending event ++ fault_line n
rest_at_fault client pending n event all other fault here =
    ap (rest_of_report client pending n all) here
    ∙ ap (λ l. rest_from client pending (Some n) (login_events client (map event_of l))) (lines_before-here n all)
    ∙ ap (λ l. l ++ fault_line n) (sym (no_lines client pending event other))

pub same_rest : (client client' : SeenScriptClient) (pending pending' : Pending) (n : ℕ) (all : List (List ℕ)) (fault : Option ℕ)
    → client' ≡ client → pending' ≡ pending → rest_of_report client pending n all fault ≡ rest_of_report client' pending' n all fault
same_rest client client' pending pending' n all fault same left =
    ap (λ c. rest_of_report c pending n all fault) (sym same) ∙ ap (λ p. rest_of_report client' p n all fault) (sym left)

-- without a line left there is no fault, and the rest is the line of the pending logins
pub rest_at_end : (client : SeenScriptClient) (pending : Pending) (n : ℕ) (all : List (List ℕ)) → all ≡ []
    → (fault : Option ℕ) → fault_from n all ≡ fault → (fault ≡ None) × (rest_of_report client pending n all fault ≡ pending_line pending)
rest_at_end client pending n all none fault first =
    let known : fault ≡ None = sym first ∙ ap (fault_from n) none in
    (known, ap (λ l. rest_of_report client pending n l fault) none ∙ ap (rest_of_report client pending n []) known)

-- ---- the first line

long_test : (script : List ℕ) → limit < length script → nat_lt limit (length script) ≡ true
long_test script long = grind (arith, nat_tests)

short_test : (script : List ℕ) → length script ≤ limit → nat_lt limit (length script) ≡ false
short_test script short = grind (arith, nat_tests)

pub too_long_fault : (script : List ℕ) → limit < length script → fault_of script ≡ Some 0
unfolding fault_of
too_long_fault script long = ap (λ t. if t then Some 0 else fault_in (lines script)) (long_test script long)

fault_of_lines : (script : List ℕ) (all : List (List ℕ)) → length script ≤ limit → lines script ≡ all → fault_of script ≡ fault_in all
unfolding fault_of
fault_of_lines script all short cut =
    ap (λ t. if t then Some 0 else fault_in (lines script)) (short_test script short) ∙ ap fault_in cut

-- the report for a fault and lines
abbrev report_at : Option ℕ → List (List ℕ) → List ℕ
report_at fault all =
    events_lines (map event_of (lines_before 1 fault all)) ++ last_line fault (store_after_events (map event_of (lines_before 1 fault all)))

report_is : (script : List ℕ) (fault : Option ℕ) (all : List (List ℕ)) → fault_of script ≡ fault → lines script ≡ all → report script ≡ report_at fault all
unfolding report
report_is script fault all first cut = ap (λ f. report_at f (lines script)) first ∙ ap (report_at fault) cut

-- a fault before the first line behind the client's leaves no event before it
pub fault_alone : (script : List ℕ) (fault : ℕ) → fault ≤ 1 → fault_of script ≡ Some fault → report script ≡ fault_line fault
fault_alone script fault least first =
    let none : fault - 1 ≡ 0 = omega arith in
    report_is script (Some fault) (lines script) first refl
    ∙ ap (λ n. events_lines (map event_of (take n (lines script))) ++ fault_line fault) none

pub too_long_report : (script : List ℕ) → limit < length script → report script ≡ fault_line 0
too_long_report script long = fault_alone script 0 (omega arith) (too_long_fault script long)

pub no_lines_fault : (script : List ℕ) → script ≡ [] → fault_of script ≡ Some 1
no_lines_fault script empty = fault_of_lines script [] (rw empty (omega arith)) (ap lines empty ∙ lines_nil)

pub no_client_fault : (script first : List ℕ) (later : List (List ℕ)) (event : Option Event) → length script ≤ limit → lines script ≡ first ∷ later
    → event ≡ event_of first → is_client event ≡ false → fault_of script ≡ Some 1
no_client_fault script first later event short cut read other =
    fault_of_lines script (first ∷ later) short cut ∙ ap (λ t. if t then fault_from 2 later else Some 1) (ap is_client (sym read) ∙ other)

pub with_client_fault : (script first : List ℕ) (later : List (List ℕ)) (event : Option Event) (line : SeenClientLine) → length script ≤ limit
    → lines script ≡ first ∷ later → event ≡ event_of first → event ≡ Some (Client line)
    → fault_of script ≡ fault_from 2 later
with_client_fault script first later event line short cut read is =
    fault_of_lines script (first ∷ later) short cut ∙ ap (λ e. if is_client e then fault_from 2 later else Some 1) (sym read ∙ is)

pub with_client_report : (script first : List ℕ) (later : List (List ℕ)) (event : Option Event) (line : SeenClientLine) → length script ≤ limit
    → lines script ≡ first ∷ later → event ≡ event_of first → event ≡ Some (Client line)
    → report script ≡ codes "client ok\n" ++ rest_of_report (client_of line) finite.empty 2 later (fault_from 2 later)
with_client_report script first later event line short cut read is =
    let fault = fault_from 2 later in
    let steps = map event_of (lines_before 2 fault later) in
    let all = lines_before-cons 1 fault first later (fault_from-least 2 later) in
    report_is script fault (first ∷ later) (with_client_fault script first later event line short cut read is) cut
    ∙ ap (λ l. events_lines (map event_of l) ++ last_line fault (store_after_events (map event_of l))) all
    ∙ ap (λ e. events_lines (e ∷ steps) ++ last_line fault (store_after_events (e ∷ steps))) (sym read ∙ is)
    ∙ append_assoc (codes "client ok\n") (steps_lines (runs.run_of types (client_of line) (login_events (client_of line) steps)))
    (last_line fault (runs.store_of types (client_of line) (login_events (client_of line) steps)))
