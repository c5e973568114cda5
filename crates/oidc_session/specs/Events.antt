-- A site's calls, one after another, from the empty store; how long a session stands, and each session by itself.
use Rattle.std.specs.Prelude.{◌≡◌, ◌↔◌, ℕ, ℤ, List, [], ◌∷◌, ◌++◌, filter, Bool, true, false, ◌&&◌, ◌||◌, Option, Some, Result, Ok, Err}
use Rattle.std.specs.FinMap as finite
use Rattle.std.specs.Str.{bytes_eq}
use Rattle.oidc_session.specs.Sessions.{SeenSession, Kept, nothing, ends_after, session_at, Opening, open_reply, with_session, without, count_of, has_ended, SeenLogout, ends_session, logged_out}
use Rattle.oidc_session.specs.LogoutTokens.{LogoutKeys, SeenLogoutVerifier, accepted_logout}
use Rattle.oidc_session.specs.declared.errors.OpenError.{OpenError}
use Rattle.oidc_session.specs.declared.errors.LogoutError.{LogoutError}

-- ---- calls

-- a look at an id, and the moment of it
pub record Look : Type 0 where
  pub id : List ℕ
  pub now : ℤ

-- a text that is posted as a logout token, and the moment when it comes
pub record Posted : Type 0 where
  pub text : List ℕ
  pub now : ℤ

pub data Event : Type 0 where
  opens : Opening → Event
  looks : Look → Event
  closes : List ℕ → Event
  sweeps : ℤ → Event
  logs_out : Posted → Event

pub data Reply : Type 0 where
  opened : Result (Unit {0}) OpenError → Reply
  looked : Option SeenSession → Reply
  closed : Bool → Reply
  swept : ℕ → Reply
  ended : Result ℕ LogoutError → Reply

-- the reply to a call, and what is kept behind it
pub record CallStep : Type 0 where
  pub reply : Reply
  pub kept : Kept

-- ---- what each call answers, and leaves

abbrev pub opened_by : Result (Unit {0}) OpenError → Kept → Opening → Kept
opened_by (Ok u) kept o = record kept { sessions = with_session kept.sessions o }
opened_by (Err e) kept o = kept

abbrev pub open_step : Kept → Opening → CallStep
open_step kept o =
    let reply = open_reply kept.sessions o in record {
      reply = opened reply;
      kept = opened_by reply kept o;
    }

abbrev pub look_step : Kept → Look → CallStep
look_step kept l = record { reply = looked (session_at kept.sessions l.id l.now); kept = kept }

abbrev pub close_step : Kept → List ℕ → CallStep
close_step kept id = record {
  reply = closed (finite.contains_key kept.sessions id);
  kept = record kept { sessions = finite.remove kept.sessions id };
}

abbrev pub sweep_step : Kept → ℤ → CallStep
sweep_step kept now = record {
  reply = swept (count_of (has_ended now) kept.sessions);
  kept = record kept { sessions = without (has_ended now) kept.sessions };
}

-- how many sessions a logout removes, and what it leaves
abbrev pub count_named : Kept → Result SeenLogout LogoutError → Result ℕ LogoutError
count_named kept (Ok logout) = Ok (count_of (ends_session logout) kept.sessions)
count_named kept (Err e) = Err e

abbrev pub left_by : Kept → Result SeenLogout LogoutError → Kept
left_by kept (Ok logout) = logged_out kept logout
left_by kept (Err e) = kept

abbrev pub is_opened : Result (Unit {0}) OpenError → Bool
is_opened (Ok u) = true
is_opened (Err e) = false

abbrev pub is_among_named : Result SeenLogout LogoutError → SeenSession → Bool
is_among_named (Ok logout) session = ends_session logout session
is_among_named (Err e) session = false

-- ---- calls about one id, and about all

-- a call about this id
abbrev pub is_about : List ℕ → Event → Bool
is_about id (opens o) = bytes_eq o.id id
is_about id (looks l) = bytes_eq l.id id
is_about id (closes other) = bytes_eq other id
is_about id (sweeps now) = false
is_about id (logs_out p) = false

-- a call about all sessions
abbrev pub is_about_all : Event → Bool
is_about_all (opens o) = false
is_about_all (looks l) = false
is_about_all (closes other) = false
is_about_all (sweeps now) = true
is_about_all (logs_out p) = true

-- the calls about an id, and those about all sessions
abbrev pub concerning : List ℕ → List Event → List Event
concerning id events = filter (λ event. is_about id event || is_about_all event) events

module _ {Key Algorithm : Type 0} (keys : LogoutKeys Key Algorithm) (v : SeenLogoutVerifier Key Algorithm) where
  -- the logout that a posted text is, for what is kept
  abbrev pub logout_in : Kept → Posted → Result SeenLogout LogoutError
  logout_in kept p = accepted_logout keys v kept.token_ids p.now p.text

  abbrev pub logout_step : Kept → Posted → CallStep
  logout_step kept p = record {
    reply = ended (count_named kept (logout_in kept p));
    kept = left_by kept (logout_in kept p);
  }

  abbrev pub step : Kept → Event → CallStep
  step kept (opens o) = open_step kept o
  step kept (looks l) = look_step kept l
  step kept (closes id) = close_step kept id
  step kept (sweeps now) = sweep_step kept now
  step kept (logs_out p) = logout_step kept p

  -- ---- runs

  -- what is kept behind events
  abbrev pub kept_from : Kept → List Event → Kept
  kept_from kept [] = kept
  kept_from kept (event ∷ later) = kept_from (step kept event).kept later

  abbrev pub kept_of : List Event → Kept
  kept_of events = kept_from nothing events

  -- events with their replies
  abbrev pub turns_from : Kept → List Event → List (Event × Reply)
  turns_from kept [] = []
  turns_from kept (event ∷ later) = (event, (step kept event).reply) ∷ turns_from (step kept event).kept later

  abbrev pub turns_of : List Event → List (Event × Reply)
  turns_of events = turns_from nothing events

  -- ---- how long a session stands

  -- An event takes a session of this id away, or puts another in its place: an accepted open of the id, a close of it, a
  -- sweep at its end or later, or an accepted logout that names it.
  abbrev pub takes : List ℕ → SeenSession → Kept → Event → Bool
  takes id session kept (opens o) = is_opened (open_reply kept.sessions o) && bytes_eq o.id id
  takes id session kept (looks l) = false
  takes id session kept (closes other) = bytes_eq other id
  takes id session kept (sweeps now) = has_ended now session
  takes id session kept (logs_out p) = is_among_named (logout_in kept p) session

  -- none of the events from there on does
  abbrev pub Stands : List ℕ → SeenSession → Kept → List Event → Type 0
  Stands id session kept [] = Unit {0}
  Stands id session kept (event ∷ later) =
      (takes id session kept event ≡ false) × Stands id session (step kept event).kept later

  -- Among the events is an accepted open of this id, which ends after this moment, and none behind it takes it away.
  pub record WasOpened (events : List Event) (id : List ℕ) (now : ℤ) (session : SeenSession) : Type 0 where
    pub earlier : List Event
    pub opening : Opening
    pub later : List Event
    pub among : events ≡ earlier ++ opens opening ∷ later
    pub own_id : opening.id ≡ id
    pub own_session : opening.session ≡ session
    pub accepted : open_reply (kept_of earlier).sessions opening ≡ Ok tt
    pub unended : ends_after now session ≡ true
    pub stands : Stands id session (kept_of (earlier ++ opens opening ∷ [])) later

  -- After every list of events a session of an id is there exactly so long.
  abbrev pub AnswersUntilEnd : Type 0
  AnswersUntilEnd =
      (events : List Event) (id : List ℕ) (now : ℤ) (session : SeenSession)
      → (session_at (kept_of events).sessions id now ≡ Some session) ↔ WasOpened events id now session

  -- ---- each session by itself

  -- the turns about an id
  abbrev pub turns_about : List ℕ → List Event → List (Event × Reply)
  turns_about id events = filter (λ turn. is_about id turn.0) (turns_of events)

  -- The replies about an id are those of the run with its calls, the sweeps and the logouts alone.
  abbrev pub RunsAsAlone : Type 0
  RunsAsAlone = (events : List Event) (id : List ℕ) → turns_about id events ≡ turns_about id (concerning id events)
