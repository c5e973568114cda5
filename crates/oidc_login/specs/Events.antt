-- Begins and callbacks, one after another, from the empty store.
use Rattle.std.specs.Prelude.{◌≡◌, ◌≤◌, ℕ, ℤ, suc, ◌&&◌, not, List, [], ◌∷◌, ◌++◌, length, drop, map, Bool, true, false, Option, None, Some, Ok, Err}
use Rattle.std.specs.List.{filter, take_while, zip}
use Rattle.std.specs.FinMap as finite
use Rattle.std.specs.Str.{bytes_eq}
use Rattle.url.specs.Parts.{Parts}
use Rattle.oidc_pairs.specs.Pairs.{pairs}
use Rattle.oidc_oauth2.specs.Messages.{SeenRequest, SeenAnswer}
use Rattle.oidc_login.specs.Types.{SeenLoginClient, SiteTypes}
use Rattle.oidc_login.specs.Logins.{Pending}
use Rattle.oidc_login.specs.Begin.{Begin, Meant as BeginMeant, begin_reply, begin_store}
use Rattle.oidc_login.specs.SignedIn.{SeenSignedIn}
use Rattle.oidc_login.specs.BeforeRequest.{state_in}
use Rattle.oidc_login.specs.Callback.{Attempt, Meant, outcome, callback_store}
use Rattle.oidc_login.specs.Runs.{attempt_by}
use Rattle.oidc_login.specs.ValidLogin.{IsValidLogin}

-- a callback: its query, its moment, and the answers that its requests get
pub record Call : Type 0 where
  pub query : List ℕ
  pub now : ℤ
  pub answers : List SeenAnswer

pub data Event : Type 0 where
  begins : Begin → Event
  calls : Call → Event

pub data Reply (AC GC : Type 0) : Type 0 where
  begun : BeginMeant Parts → Reply AC GC
  called : Meant (SeenSignedIn AC GC) → Reply AC GC

-- the reply to an event, the requests that it sends, and the store behind it
pub record Step (AC GC : Type 0) : Type 0 where
  pub reply : Reply AC GC
  pub sent : List SeenRequest
  pub pending : Pending

abbrev pub called_with : {Key : Type 0} → SeenLoginClient Key → Pending → Call → Attempt Key
called_with client pending c = attempt_by client pending c.query c.now

module _ {AC GC Key Use : Type 0} (types : SiteTypes AC GC Key Use) (client : SeenLoginClient Key) where
  abbrev pub begin_step : Pending → Begin → Step AC GC
  begin_step pending b = record {
    reply = begun (begin_reply client pending b);
    sent = [];
    pending = begin_store (begin_reply client pending b) pending b;
  }

  abbrev pub callback_step : Pending → Call → Step AC GC
  callback_step pending c =
      let run = outcome types (called_with client pending c) c.answers in record {
        reply = called run.reply;
        sent = run.sent;
        pending = callback_store pending c.query;
      }

  abbrev pub step : Pending → Event → Step AC GC
  step pending (begins b) = begin_step pending b
  step pending (calls c) = callback_step pending c

  -- the steps of events, and the store behind them
  abbrev pub steps_from : Pending → List Event → List (Step AC GC)
  steps_from pending [] = []
  steps_from pending (event ∷ later) = step pending event ∷ steps_from (step pending event).pending later

  abbrev pub store_from : Pending → List Event → Pending
  store_from pending [] = pending
  store_from pending (event ∷ later) = store_from (step pending event).pending later

  abbrev pub run_of : List Event → List (Step AC GC)
  run_of events = steps_from finite.empty events

  abbrev pub store_of : List Event → Pending
  store_of events = store_from finite.empty events

-- ---- the callbacks of one begin

-- a begin is accepted
abbrev pub is_accepted : BeginMeant Parts → Bool
is_accepted (Ok url) = true
is_accepted (Err error) = false

-- a query has one state, and it is this
abbrev pub is_of_state : List ℕ → Option (List ℕ) → Bool
is_of_state state None = false
is_of_state state (Some found) = bytes_eq state found

abbrev pub has_any : List SeenRequest → Bool
has_any [] = false
has_any (request ∷ later) = true

-- an event of a run, and its step
abbrev pub EventStep : Type 0 → Type 0 → Type 0
EventStep AC GC = Event × Step AC GC

module _ {AC GC : Type 0} where
  abbrev pub is_begun : Reply AC GC → Bool
  is_begun (begun reply) = is_accepted reply
  is_begun (called reply) = false

  -- a step that sent something
  abbrev pub has_sent : Step AC GC → Bool
  has_sent s = has_any s.sent

  -- an accepted begin of this state
  abbrev pub begins_again : List ℕ → EventStep AC GC → Bool
  begins_again state (begins b, s) = is_begun s.reply && bytes_eq state b.request.state
  begins_again state (calls c, s) = false

  -- a callback whose query has one state, and it is this
  abbrev pub calls_back : List ℕ → EventStep AC GC → Bool
  calls_back state (begins b, s) = false
  calls_back state (calls c, s) = is_of_state state (state_in (pairs c.query))

module _ {AC GC Key Use : Type 0} (types : SiteTypes AC GC Key Use) where
  abbrev pub event_steps : SeenLoginClient Key → List Event → List (EventStep AC GC)
  event_steps client events = zip events (run_of types client events)

  abbrev pub replies_of : SeenLoginClient Key → List Event → List (Reply AC GC)
  replies_of client events = map (λ s. s.reply) (run_of types client events)

  -- the events behind a begin with their steps, up to the next accepted begin of its state
  abbrev pub steps_behind : SeenLoginClient Key → List Event → Begin → List Event → List (EventStep AC GC)
  steps_behind client earlier b later =
      take_while (λ it. not (begins_again b.request.state it))
      (drop (suc (length earlier)) (event_steps client (earlier ++ begins b ∷ later)))

  -- The callbacks of a begin: those with one state, its own, behind it and before the next accepted begin of that state.
  abbrev pub callbacks_of : SeenLoginClient Key → List Event → Begin → List Event → List (EventStep AC GC)
  callbacks_of client earlier b later = filter (calls_back b.request.state) (steps_behind client earlier b later)

  -- the begin and these alone
  abbrev pub alone : SeenLoginClient Key → List Event → Begin → List Event → List Event
  alone client earlier b later = begins b ∷ map (λ it. it.0) (callbacks_of client earlier b later)

  -- ---- the laws

  -- Of the callbacks of one begin at most one sends anything, whatever came before and comes between; nor does more than
  -- one in the run of the begin and these alone. The second says no more than the first says of that run, in which each
  -- callback is one of the begin.
  abbrev pub SpentOnce : Type 0
  SpentOnce =
      (client : SeenLoginClient Key) (earlier later : List Event) (b : Begin)
      → (length (filter (λ it. has_sent it.1) (callbacks_of client earlier b later)) ≤ 1)
      × (length (filter has_sent (run_of types client (alone client earlier b later))) ≤ 1)

  -- A callback that is a valid login signs in, whatever came before and comes behind: its reply is the first behind
  -- those to the earlier events.
  abbrev pub ValidSignsIn : Type 0
  ValidSignsIn =
      (client : SeenLoginClient Key) (earlier later : List Event) (c : Call)
      → IsValidLogin types (called_with client (store_of types client earlier) c) c.answers
      → (signed : SeenSignedIn AC GC) × (rest : List (Reply AC GC))
      × (drop (length earlier) (replies_of client (earlier ++ calls c ∷ later)) ≡ called (Ok signed) ∷ rest)
