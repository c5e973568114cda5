-- Each login's run is the run of its own events: a begin and its callbacks run among all others as they would alone, and
-- several stores among which events are dealt by their states run as one that gets them all.
use Rattle.std.specs.Prelude.{◌≡◌, ◌==◌, ℕ, List, ◌∷◌, map, Bool, true, false, Option, None, Some, IfSome}
use Rattle.std.specs.FinMap as finite
use Rattle.std.specs.List.{filter, zip, All}
use Rattle.oidc_pairs.specs.Pairs.{pairs}
use Rattle.oidc_oauth2.specs.Messages.{SeenRequest}
use Rattle.oidc_login.specs.Types.{SeenLoginClient, SiteTypes}
use Rattle.oidc_login.specs.Logins.{Pending}
use Rattle.oidc_login.specs.Begin.{Begin, begin_reply}
use Rattle.oidc_login.specs.BeforeRequest.{state_in}
use Rattle.oidc_login.specs.Events.{Event, begins, calls, Reply, begin_step, run_of, store_of, is_accepted, EventStep, event_steps, callbacks_of, alone}

-- ---- turns

-- the one state of an event: that of a begin's request, that in a callback's query
abbrev pub state_of : Event → Option (List ℕ)
state_of (begins b) = Some b.request.state
state_of (calls c) = state_in (pairs c.query)

abbrev pub is_pending_in : Pending → Option (List ℕ) → Bool
is_pending_in pending None = false
is_pending_in pending (Some state) = finite.contains_key pending state

-- an event, the reply to it, the requests that it sends, and whether its state is pending behind it
pub record Turn (AC GC : Type 0) : Type 0 where
  pub event : Event
  pub reply : Reply AC GC
  pub sent : List SeenRequest
  pub is_pending : Bool

abbrev pub turn_of : {AC GC : Type 0} → EventStep AC GC → Turn AC GC
turn_of it = record {
  event = it.0;
  reply = it.1.reply;
  sent = it.1.sent;
  is_pending = is_pending_in it.1.pending (state_of it.0);
}

-- ---- events that are dealt to several stores

-- an event, and the number of the store that it goes to
pub record Dealt : Type 0 where
  pub event : Event
  pub store : ℕ

-- An event with one state goes to the store that the state has, so all events of a state go to one store. Any other may
-- go to any store.
abbrev pub IsRouted : (List ℕ → ℕ) → Dealt → Type 0
IsRouted store_for d = IfSome (state_of d.event) (λ state. d.store ≡ store_for state)

-- all events, and those that go to one store, in their order
abbrev pub events_in : List Dealt → List Event
events_in dealt = map (λ d. d.event) dealt

abbrev pub events_to : ℕ → List Dealt → List Event
events_to store dealt = events_in (filter (λ d. d.store == store) dealt)

module _ {AC GC Key Use : Type 0} (types : SiteTypes AC GC Key Use) where
  -- the turns of a run
  abbrev pub turns_of : SeenLoginClient Key → List Event → List (Turn AC GC)
  turns_of client events = map turn_of (event_steps types client events)

  -- of the run of all events: the turns of a begin and of its callbacks
  abbrev pub turns_among : SeenLoginClient Key → List Event → Begin → List Event → List (Turn AC GC)
  turns_among client earlier b later =
      let own = begin_step types client (store_of types client earlier) b in
      map turn_of ((begins b, own) ∷ callbacks_of types client earlier b later)

  -- of the run of all events in one store: the turns of those that are dealt to a store of several
  abbrev pub turns_dealt : SeenLoginClient Key → List Dealt → ℕ → List (Turn AC GC)
  turns_dealt client dealt store =
      let steps = zip dealt (run_of types client (events_in dealt)) in
      map (λ it. turn_of (it.0.event, it.1)) (filter (λ it. it.0.store == store) steps)

  -- ---- the laws

  -- Whatever comes before an accepted begin, between its callbacks and behind them, it and its callbacks have the turns
  -- that they have alone: so it is accepted there too, by the same reply.
  abbrev pub RunsAsAlone : Type 0
  RunsAsAlone =
      (client : SeenLoginClient Key) (earlier later : List Event) (b : Begin)
      → is_accepted (begin_reply client (store_of types client earlier) b) ≡ true
      → turns_among client earlier b later ≡ turns_of client (alone types client earlier b later)

  -- Where each state has a store that its events go to, the events that go to a store have there the turns that they
  -- have in one store that gets all events.
  abbrev pub RunsAsOneStore : Type 0
  RunsAsOneStore =
      (client : SeenLoginClient Key) (dealt : List Dealt) (store_for : List ℕ → ℕ) (store : ℕ)
      → All (IsRouted store_for) dealt
      → turns_dealt client dealt store ≡ turns_of client (events_to store dealt)
