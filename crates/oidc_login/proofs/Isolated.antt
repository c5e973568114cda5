-- A begin and its callbacks run among other events as alone, and dealt events run in several stores as in one.
use Rattle.std.proofs.Common.{◌≡◌, ℕ, List, [], ◌∷◌, map, Bool, true, false, Option, None, Some, Ok, Err, cond, refl, sym, subst, ◌∙◌, arith}
use Rattle.std.specs.Prelude.{◌&&◌, not, ◌==◌, is_some, IfSome}
use Rattle.std.specs.FinMap as finite
use Rattle.std.specs.List.{filter, take_while, zip, All}
use Rattle.std.specs.Ordering.{nat_cmp}
use Rattle.std.specs.Str.{bytes_eq}
use Rattle.std.specs.Cmp.Lexicographic.{slice_cmp, bytes_decides}
use Rattle.std.proofs.lemmas.Bool.Decides.{nat_tests}
use Rattle.std.proofs.lemmas.List.Elements.{All-head, All-tail}
use Rattle.url.specs.Parts.{Parts}
use Rattle.oidc_pairs.specs.Pairs.{pairs}
use Rattle.oidc_login.specs.Types.{SeenLoginClient, SiteTypes}
use Rattle.oidc_login.specs.Logins.{SeenLogin, Pending}
use Rattle.oidc_login.specs.Begin.{Begin, Meant as BeginMeant, begin_reply, begin_store}
use Rattle.oidc_login.specs.BeforeRequest.{state_in}
use Rattle.oidc_login.specs.Events.{Call, Event, begins, calls, Step, begin_step, callback_step, step, steps_from, store_of, is_accepted, is_of_state, EventStep, calls_back}
use Rattle.oidc_login.specs.Isolation.{turn_of, state_of, Dealt, IsRouted, events_in, RunsAsAlone, RunsAsOneStore}
use Rattle.oidc_login.proofs.Begun.{was_free}
use Rattle.oidc_login.proofs.EventSteps.{taken_more, goes_on, going_on, store_behind, event_steps_dropped}
use Rattle.oidc_login.proofs.Alike.{Alike, IsAt, IsElsewhere, begun_elsewhere, called_elsewhere, begun_turn, begun_alike, called_turn, called_alike, turn_alike, step_alike, step_elsewhere}

-- ---- a begin and its callbacks

module _ {AC GC Key Use : Type 0} (types : SiteTypes AC GC Key Use) (client : SeenLoginClient Key) (s : List ℕ) where
  abbrev IsOwn : List ℕ → Type 0
  IsOwn state = bytes_eq s state ≡ true

  abbrev own_calls : List (EventStep AC GC) → List (EventStep AC GC)
  own_calls its = filter (calls_back s) its

  -- events have the turns that they have in a run of these alone, from a store on
  abbrev RunsFrom : Pending → List (EventStep AC GC) → Type 0
  RunsFrom n its =
      let events = map (λ (it : EventStep AC GC). it.0) its in
      map turn_of its ≡ map turn_of (zip events (steps_from types client n events))

  own_at : (found : Option (List ℕ)) → is_of_state s found ≡ true → IsAt IsOwn found
  own_at None is = absurd cc
  own_at (Some found) is = λ state e. cc

  others_elsewhere : (found : Option (List ℕ)) → is_of_state s found ≡ false → IsElsewhere IsOwn found
  others_elsewhere None is = λ state e at. cc
  others_elsewhere (Some found) is = λ state e at. cc

  -- a begin that is no accepted one of this state leaves the login of this state as it is
  begun_on : (reply : BeginMeant Parts) (own : Bool) (m n : Pending) (b : Begin) → bytes_eq s b.request.state ≡ own → (is_accepted reply && own) ≡ false
      → Alike IsOwn m n → Alike IsOwn (begin_store reply m b) n
  begun_on (Err e) own m n b is goes alike = alike
  begun_on (Ok url) true m n b is goes alike = absurd cc
  begun_on (Ok url) false m n b is goes alike = begun_elsewhere IsOwn (Ok url) m n b (λ at. cc) alike

  begun_case : (again : Bool) (b : Begin) (done : Step AC GC) (its : List (EventStep AC GC)) (n : Pending) → (again ≡ false → RunsFrom n (own_calls its))
      → RunsFrom n (own_calls (cond (not again) ((begins b, done) ∷ its) []))
  begun_case true b done its n rest = refl
  begun_case false b done its n rest = rest refl

  called_case : (own : Bool) (c : Call) (its : List (EventStep AC GC)) (m n : Pending) → is_of_state s (state_in (pairs c.query)) ≡ own → Alike IsOwn m n
      → ((next : Pending) → Alike IsOwn (callback_step types client m c).pending next → RunsFrom next (own_calls its))
      → RunsFrom n (cond own ((calls c, callback_step types client m c) ∷ own_calls its) (own_calls its))
  called_case true c its m n own alike rest =
      let later = rest (callback_step types client n c).pending (called_alike IsOwn types client m n alike c) in
      λ i. called_turn IsOwn types client m n alike c (own_at (state_in (pairs c.query)) own) i ∷ later i
  called_case false c its m n other alike rest = rest n (called_elsewhere IsOwn m n c (others_elsewhere (state_in (pairs c.query)) other) alike)

  runs_as_alone : (later : List Event) (m n : Pending) → Alike IsOwn m n → RunsFrom n (own_calls (going_on types client s later m))
  runs_as_alone [] m n alike = refl
  runs_as_alone (begins b ∷ later) m n alike =
      let reply = begin_reply client m b in
      subst (λ its. RunsFrom n (own_calls its)) (sym (taken_more (goes_on s) (begins b, begin_step types client m b) _))
      (begun_case (is_accepted reply && bytes_eq s b.request.state) b (begin_step types client m b) (going_on types client s later (begin_store reply m b)) n
      (λ goes. runs_as_alone later (begin_store reply m b) n (begun_on reply (bytes_eq s b.request.state) m n b refl goes alike)))
  runs_as_alone (calls c ∷ later) m n alike =
      subst (λ its. RunsFrom n (own_calls its)) (sym (taken_more (goes_on s) (calls c, callback_step types client m c) _))
      (called_case (is_of_state s (state_in (pairs c.query))) c (going_on types client s later (callback_step types client m c).pending) m n refl alike
      (λ next. runs_as_alone later (callback_step types client m c).pending next))

  none_held : (held : Option SeenLogin) → is_some held ≡ false → held ≡ None
  none_held None is = refl
  none_held (Some login) is = absurd cc

  -- where the state isn't pending, the store is as the empty one at it
  free_alike : (m : Pending) → finite.contains_key m s ≡ false → Alike IsOwn m finite.empty
  free_alike m is = λ state own.
      let empty : Pending = finite.empty in
      subst (λ q. finite.get m q ≡ finite.get empty q) ((bytes_decides s state).0 own)
      (none_held (finite.get m s) is ∙ sym (finite.get-empty (slice_cmp nat_cmp) s))

module _ {AC GC Key Use : Type 0} (types : SiteTypes AC GC Key Use) where
  pub isolation : RunsAsAlone types
  isolation client earlier later b accepted =
      let s = b.request.state in
      let m = store_of types client earlier in
      let begun = begin_step types client m b in
      let alike = free_alike types client s m (was_free client.client_id (is_some client.user_info_url) m b accepted) in
      let own : bytes_eq s s ≡ true = (bytes_decides s s).1 refl in
      let first = begun_turn (IsOwn types client s) types client m finite.empty alike b own in
      let behind = begun_alike (IsOwn types client s) types client m finite.empty alike b own in
      let calls_alone = runs_as_alone types client s later begun.pending (begin_step types client finite.empty b).pending behind in
      subst (λ its. RunsFrom types client s finite.empty ((begins b, begun) ∷ own_calls types client s (take_while (goes_on s) its)))
      (sym (event_steps_dropped types client earlier (begins b) later finite.empty))
      (subst (λ store. RunsFrom types client s finite.empty ((begins b, begun) ∷ own_calls types client s (going_on types client s later store)))
      (sym (store_behind types client earlier (begins b) finite.empty))
      (λ i. first i ∷ calls_alone i))

-- ---- events that are dealt to several stores

equals : (x k : ℕ) → (x == k) ≡ true → x ≡ k
equals x k is = grind (arith, nat_tests)

differs : (x k : ℕ) → (x == k) ≡ false → x ≡ k → ⊥
differs x k is e = grind (arith, nat_tests)

module _ {AC GC Key Use : Type 0} (types : SiteTypes AC GC Key Use) (client : SeenLoginClient Key) (store_for : List ℕ → ℕ) (k : ℕ) where
  abbrev IsHere : List ℕ → Type 0
  IsHere state = store_for state ≡ k

  routed_here : (found : Option (List ℕ)) (store : ℕ) → IfSome found (λ state. store ≡ store_for state) → store ≡ k → IsAt IsHere found
  routed_here None store routed is = λ state e. cc
  routed_here (Some found) store routed is = λ state e. cc

  routed_elsewhere : (found : Option (List ℕ)) (store : ℕ) → IfSome found (λ state. store ≡ store_for state) → (store ≡ k → ⊥) → IsElsewhere IsHere found
  routed_elsewhere None store routed other = λ state e here. cc
  routed_elsewhere (Some found) store routed other = λ state e here. other cc

  abbrev DealtStep : Type 0
  DealtStep = Dealt × Step AC GC

  -- dealt events with their steps have the turns that they have in a run of these alone, from a store on
  abbrev RunsHere : Pending → List DealtStep → List Dealt → Type 0
  RunsHere n its here =
      map (λ (it : DealtStep). turn_of (it.0.event, it.1)) its ≡ map turn_of (zip (events_in here) (steps_from types client n (events_in here)))

  dealt_case : (here : Bool) (d : Dealt) (its : List DealtStep) (later : List Dealt) (m n : Pending) → (d.store == k) ≡ here → IsRouted store_for d → Alike IsHere m n
      → ((next : Pending) → Alike IsHere (step types client m d.event).pending next → RunsHere next its later)
      → RunsHere n (cond here ((d, step types client m d.event) ∷ its) its) (cond here (d ∷ later) later)
  dealt_case true d its later m n here routed alike rest =
      let at = routed_here (state_of d.event) d.store routed (equals d.store k here) in
      let behind = rest (step types client n d.event).pending (step_alike IsHere types client m n alike d.event at) in
      λ i. turn_alike IsHere types client m n alike d.event at i ∷ behind i
  dealt_case false d its later m n other routed alike rest =
      rest n (step_elsewhere IsHere types client m n alike d.event (routed_elsewhere (state_of d.event) d.store routed (differs d.store k other)))

  runs_dealt : (dealt : List Dealt) (m n : Pending) → All (IsRouted store_for) dealt → Alike IsHere m n
      → RunsHere n (filter (λ it. it.0.store == k) (zip dealt (steps_from types client m (events_in dealt)))) (filter (λ d. d.store == k) dealt)
  runs_dealt [] m n routed alike = refl
  runs_dealt (d ∷ dealt) m n routed alike =
      dealt_case (d.store == k) d _ _ m n refl (All-head (IsRouted store_for) d dealt routed) alike
      (λ next. runs_dealt dealt _ next (All-tail (IsRouted store_for) d dealt routed))

module _ {AC GC Key Use : Type 0} (types : SiteTypes AC GC Key Use) where
  pub shards : RunsAsOneStore types
  shards client dealt store_for store routed = runs_dealt types client store_for store dealt finite.empty finite.empty routed (λ state here. refl)
