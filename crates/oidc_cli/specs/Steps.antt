-- What the private functions of the program answer, between what its report and its drill are said to be. No public clause
-- cites this.
use Rattle.std.specs.Prelude.{ℕ, ◌≤◌, List, [], ◌∷◌, ◌++◌, map, Option, None, Some, Result, Ok, Err, Bool, true, false}
use Rattle.std.specs.List.{zip}
use Rattle.form_urlencoded.specs.Form.{ampersand, serialize_pair}
use Rattle.oidc_login.specs.Logins.{Pending}
use Rattle.oidc_login.specs.Events as runs
use Rattle.oidc_login.specs.declared.errors.LoginError.{LoginError}
use Rattle.oidc_login.specs.declared.errors.LoginError.TheVariants.{State}
use Rattle.oidc_cli.specs.Types.{types, SeenScriptClient}
use Rattle.oidc_cli.specs.Script.{event_of}
use Rattle.oidc_cli.specs.Logins.{login_event, login_events}
use Rattle.oidc_cli.specs.Report.{Step, step_lines, steps_lines, lines_before, last_line}
use Rattle.oidc_cli.specs.Drill.{event_of_turn}
use Rattle.oidc_cli.specs.declared.events.Event.{Event}
use Rattle.oidc_cli.specs.declared.replay.Ending.{Ending}
use Rattle.oidc_cli.specs.declared.replay.Ending.TheVariants as ending
use Rattle.oidc_cli.specs.declared.replay.Halt.{Halt}
use Rattle.oidc_cli.specs.declared.replay.Halt.TheVariants as halt
use Rattle.oidc_cli.specs.declared.drill.turns.Turn.{Turn}
use Rattle.oidc_cli.specs.declared.drill.turns.Tally.{Tally}

-- ---- a form text, pair by pair

-- what these pairs add to a form text that has others before them
abbrev pub behind : List (List ℕ × List ℕ) → List ℕ
behind [] = []
behind (pair ∷ list) = ampersand ∷ serialize_pair pair ++ behind list

-- ---- a report, event by event

-- the lines of what one line says, over a store, and the store after it
abbrev pub lines_of_event : SeenScriptClient → Pending → Option runs.Event → List ℕ
lines_of_event client pending None = []
lines_of_event client pending (Some event) = step_lines (runs.step types client pending event)

abbrev pub store_after_event : SeenScriptClient → Pending → Option runs.Event → Pending
store_after_event client pending None = pending
store_after_event client pending (Some event) = (runs.step types client pending event).pending

abbrev pub event_lines : SeenScriptClient → Pending → Option Event → List ℕ
event_lines client pending event = lines_of_event client pending (login_event client event)

abbrev pub store_after : SeenScriptClient → Pending → Option Event → Pending
store_after client pending event = store_after_event client pending (login_event client event)

-- the rest of a report, from the begin or callback line with number n on
abbrev pub rest_of_report : SeenScriptClient → Pending → ℕ → List (List ℕ) → Option ℕ → List ℕ
rest_of_report client pending n all fault =
    let events = login_events client (map event_of (lines_before n fault all)) in
    steps_lines (runs.steps_from types client pending events)
    ++ last_line fault (runs.store_from types client pending events)

-- how a report ends
abbrev pub ending_of : Option ℕ → Ending
ending_of None = ending.Pending
ending_of (Some fault) = ending.Fault

-- the status after a script was read
abbrev pub status_after : Result Ending Halt → ℕ
status_after (Ok ending.Pending) = 0
status_after (Ok ending.Fault) = 3
status_after (Err halt.Sink) = 1
status_after (Err halt.Memory) = 5

-- the status of a drill
abbrev pub status_after_drill : Result (Unit {0}) Halt → ℕ
status_after_drill (Ok done) = 0
status_after_drill (Err halt.Sink) = 1
status_after_drill (Err halt.Memory) = 5

-- ---- a drill, turn by turn

-- the steps of turns over a store, each beside its turn, and the store behind them
abbrev pub steps_of_turns : SeenScriptClient → Pending → List Turn → List (Turn × Step)
steps_of_turns client pending turns = zip turns (runs.steps_from types client pending (map event_of_turn turns))

abbrev pub store_after_turns : SeenScriptClient → Pending → List Turn → Pending
store_after_turns client pending turns = runs.store_from types client pending (map event_of_turn turns)

-- each count is at most this
abbrev pub IsWithin : ℕ → Tally → Type 0
IsWithin most tally =
    (tally.begun ≤ most) × (tally.signed ≤ most) × (tally.repeated ≤ most) × (tally.sent ≤ most)

-- a callback was refused as `State`
abbrev pub is_state : {A E : Type 0} → Result A (LoginError E) → Bool
is_state (Err State) = true
is_state reply = false
