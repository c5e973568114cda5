-- How long a session stands in a run, and that it stands there as in the run of its own calls, the sweeps and the logouts.
use Rattle.std.proofs.Common.{◌≡◌, ℕ, ℤ, Bool, true, false, cond, List, [], ◌∷◌, ◌++◌, filter, Option, None, Some, Result, Ok, Err, refl, sym, ap, subst, ◌∙◌, inl, inr, ⊎_elim}
use Rattle.std.specs.Prelude.{◌⊎◌, ◌&&◌, ◌||◌, not, is_some}
use Rattle.std.specs.FinMap as finite
use Rattle.std.specs.FinSet as set
use Rattle.std.specs.Cmp.Lexicographic.{bytes_decides}
use Rattle.std.specs.Str.{bytes_eq}
use Rattle.std.proofs.lemmas.Bool.{false≢true}
use Rattle.oidc_session.specs.Sessions.{SeenSession, Sessions, Kept, nothing, ends_after, if_live, session_at, Opening, open_reply, without, has_ended, SeenLogout, ends_session}
use Rattle.oidc_session.specs.LogoutTokens.{LogoutKeys, SeenLogoutVerifier, accepted_logout}
use Rattle.oidc_session.specs.Events.{Event, opens, looks, closes, sweeps, logs_out, Reply, opened, looked, closed, opened_by, logout_in, left_by, step, kept_from, kept_of, turns_from, is_opened, is_among_named, takes, Stands, WasOpened, AnswersUntilEnd, is_about, is_about_all, concerning, RunsAsAlone}
use Rattle.oidc_oauth2.specs.Replies.{◌>>◌, ◌when◌}
use Rattle.oidc_session.specs.declared.errors.OpenError.{OpenError}
use Rattle.oidc_session.specs.declared.errors.OpenError.TheVariants.{Ended, Taken}
use Rattle.oidc_session.specs.declared.errors.LogoutError.{LogoutError}
use Rattle.oidc_session.proofs.Entries.{get_inserted, get_removed, get_without, left_of}

-- ---- what a change leaves at an id

-- a session that isn't gone
left_standing : (gone : SeenSession → Bool) (m : Sessions) (id : List ℕ) (session : SeenSession) → gone session ≡ false → finite.get m id ≡ Some session → finite.get (without gone m) id ≡ Some session
left_standing gone m id session stays h =
    get_without gone m id ∙ ap (left_of gone) h ∙ (λ i. cond (not (stays i)) (Some session) None)

same_some : (x y : SeenSession) → Some x ≡ Some y → x ≡ y
same_some x y e = cc

was_left_at : (gone : SeenSession → Bool) (s session : SeenSession) (b : Bool) → gone s ≡ b → cond (not b) (Some s) None ≡ Some session → (Some s ≡ Some session) × (gone session ≡ false)
was_left_at gone s session true is h = absurd cc
was_left_at gone s session false is h = (h, ap gone (same_some session s (sym h)) ∙ is)

was_left : (gone : SeenSession → Bool) (found : Option SeenSession) (session : SeenSession) → left_of gone found ≡ Some session → (found ≡ Some session) × (gone session ≡ false)
was_left gone None session h = absurd cc
was_left gone (Some s) session h = was_left_at gone s session (gone s) refl h

standing : (gone : SeenSession → Bool) (m : Sessions) (id : List ℕ) (session : SeenSession) → finite.get (without gone m) id ≡ Some session → (finite.get m id ≡ Some session) × (gone session ≡ false)
standing gone m id session h = was_left gone (finite.get m id) session (sym (get_without gone m id) ∙ h)

put_elsewhere : (b : Bool) (o : SeenSession) (found : Option SeenSession) (session : SeenSession) → b ≡ false → found ≡ Some session → cond b (Some o) found ≡ Some session
put_elsewhere true o found session e h = absurd (false≢true (sym e))
put_elsewhere false o found session e h = h

taken_elsewhere : (b : Bool) (found : Option SeenSession) (session : SeenSession) → b ≡ false → found ≡ Some session → cond b None found ≡ Some session
taken_elsewhere true found session e h = absurd (false≢true (sym e))
taken_elsewhere false found session e h = h

was_elsewhere : (b : Bool) (found : Option SeenSession) (session : SeenSession) → cond b None found ≡ Some session → (found ≡ Some session) × (b ≡ false)
was_elsewhere true found session h = absurd cc
was_elsewhere false found session h = (h, refl)

-- ---- a call to open a session

opened_elsewhere : (r : Result (Unit {0}) OpenError) (kept : Kept) (o : Opening) (id : List ℕ) (session : SeenSession) → (is_opened r && bytes_eq o.id id) ≡ false
    → finite.get kept.sessions id ≡ Some session → finite.get (opened_by r kept o).sessions id ≡ Some session
opened_elsewhere (Ok u) kept o id session e h = get_inserted kept.sessions o.id o.session id ∙ put_elsewhere (bytes_eq o.id id) o.session (finite.get kept.sessions id) session e h
opened_elsewhere (Err why) kept o id session e h = h

-- an accepted open of this id with this session
abbrev Opens : Kept → Opening → List ℕ → SeenSession → Type 0
Opens kept o id session = (o.id ≡ id) × (o.session ≡ session) × (open_reply kept.sessions o ≡ Ok tt)

put_there : (b : Bool) (kept : Kept) (o : Opening) (id : List ℕ) (session : SeenSession) → bytes_eq o.id id ≡ b → open_reply kept.sessions o ≡ Ok tt
    → cond b (Some o.session) (finite.get kept.sessions id) ≡ Some session → ((finite.get kept.sessions id ≡ Some session) × (b ≡ false)) ⊎ Opens kept o id session
put_there true kept o id session is accepted h = inr ((bytes_decides o.id id).0 is, same_some o.session session h, accepted)
put_there false kept o id session is accepted h = inl (h, refl)

opened_there : (r : Result (Unit {0}) OpenError) (kept : Kept) (o : Opening) (id : List ℕ) (session : SeenSession) → open_reply kept.sessions o ≡ r
    → finite.get (opened_by r kept o).sessions id ≡ Some session
    → ((finite.get kept.sessions id ≡ Some session) × ((is_opened r && bytes_eq o.id id) ≡ false)) ⊎ Opens kept o id session
opened_there (Ok u) kept o id session is h = put_there (bytes_eq o.id id) kept o id session refl is (sym (get_inserted kept.sessions o.id o.session id) ∙ h)
opened_there (Err why) kept o id session is h = inl (h, refl)

here : (b : Bool) (o : SeenSession) (found : Option SeenSession) → b ≡ true → cond b (Some o) found ≡ Some o
here true o found e = refl
here false o found e = absurd (false≢true e)

opened_here : (r : Result (Unit {0}) OpenError) (kept : Kept) (o : Opening) (id : List ℕ) (session : SeenSession) → r ≡ Ok tt → o.id ≡ id → o.session ≡ session
    → finite.get (opened_by r kept o).sessions id ≡ Some session
opened_here (Ok u) kept o id session is same_id same_session =
    get_inserted kept.sessions o.id o.session id ∙ here (bytes_eq o.id id) o.session (finite.get kept.sessions id) ((bytes_decides o.id id).1 same_id) ∙ ap Some same_session
opened_here (Err why) kept o id session is same_id same_session = absurd cc

-- ---- a logout

left_named : (meant : Result SeenLogout LogoutError) (kept : Kept) (id : List ℕ) (session : SeenSession) → is_among_named meant session ≡ false
    → finite.get kept.sessions id ≡ Some session → finite.get (left_by kept meant).sessions id ≡ Some session
left_named (Ok logout) kept id session e h = left_standing (ends_session logout) kept.sessions id session e h
left_named (Err why) kept id session e h = h

was_named : (meant : Result SeenLogout LogoutError) (kept : Kept) (id : List ℕ) (session : SeenSession) → finite.get (left_by kept meant).sessions id ≡ Some session
    → (finite.get kept.sessions id ≡ Some session) × (is_among_named meant session ≡ false)
was_named (Ok logout) kept id session h = standing (ends_session logout) kept.sessions id session h
was_named (Err why) kept id session h = (h, refl)

-- ---- a session that is found

live_at : (now : ℤ) (s session : SeenSession) (b : Bool) → ends_after now s ≡ b → cond b (Some s) None ≡ Some session → (Some s ≡ Some session) × (ends_after now session ≡ true)
live_at now s session true is h = (h, ap (ends_after now) (same_some session s (sym h)) ∙ is)
live_at now s session false is h = absurd cc

live_some : (now : ℤ) (found : Option SeenSession) (session : SeenSession) → if_live now found ≡ Some session → (found ≡ Some session) × (ends_after now session ≡ true)
live_some now None session h = absurd cc
live_some now (Some s) session h = live_at now s session (ends_after now s) refl h

live_back : (now : ℤ) (found : Option SeenSession) (session : SeenSession) → found ≡ Some session → ends_after now session ≡ true → if_live now found ≡ Some session
live_back now found session h after = ap (if_live now) h ∙ (λ i. cond (after i) (Some session) None)

module _ {Key Algorithm : Type 0} (keys : LogoutKeys Key Algorithm) (v : SeenLogoutVerifier Key Algorithm) where
  abbrev next : Kept → Event → Kept
  next kept event = (step keys v kept event).kept

  -- an event that doesn't take a session away leaves it
  step_keeps : (event : Event) (kept : Kept) (id : List ℕ) (session : SeenSession) → takes keys v id session kept event ≡ false → finite.get kept.sessions id ≡ Some session
      → finite.get (next kept event).sessions id ≡ Some session
  step_keeps (opens o) kept id session e h = opened_elsewhere (open_reply kept.sessions o) kept o id session e h
  step_keeps (looks l) kept id session e h = h
  step_keeps (closes other) kept id session e h = get_removed kept.sessions other id ∙ taken_elsewhere (bytes_eq other id) (finite.get kept.sessions id) session e h
  step_keeps (sweeps now) kept id session e h = left_standing (has_ended now) kept.sessions id session e h
  step_keeps (logs_out p) kept id session e h = left_named (logout_in keys v kept p) kept id session e h

  stands_keeps : (events : List Event) (kept : Kept) (id : List ℕ) (session : SeenSession) → finite.get kept.sessions id ≡ Some session → Stands keys v id session kept events
      → finite.get (kept_from keys v kept events).sessions id ≡ Some session
  stands_keeps [] kept id session h stands = h
  stands_keeps (event ∷ later) kept id session h stands = stands_keeps later (next kept event) id session (step_keeps event kept id session stands.0 h) stands.1

  kept_append : (xs ys : List Event) (kept : Kept) → kept_from keys v kept (xs ++ ys) ≡ kept_from keys v (kept_from keys v kept xs) ys
  kept_append [] ys kept = refl
  kept_append (x ∷ xs) ys kept = kept_append xs ys (next kept x)

  kept_append_two : (xs : List Event) (y : Event) (ys : List Event) (kept : Kept) → kept_from keys v kept (xs ++ y ∷ ys) ≡ kept_from keys v (kept_from keys v kept (xs ++ y ∷ [])) ys
  kept_append_two [] y ys kept = refl
  kept_append_two (x ∷ xs) y ys kept = kept_append_two xs y ys (next kept x)

  -- an accepted open among events, from a store on, behind which its session stands
  record OpenedFrom (kept : Kept) (events : List Event) (id : List ℕ) (session : SeenSession) : Type 0 where
    earlier : List Event
    opening : Opening
    later : List Event
    among : events ≡ earlier ++ opens opening ∷ later
    accepts : Opens (kept_from keys v kept earlier) opening id session
    stands : Stands keys v id session (kept_from keys v kept (earlier ++ opens opening ∷ [])) later

  abbrev Origin : Kept → List Event → List ℕ → SeenSession → Type 0
  Origin kept events id session =
      ((finite.get kept.sessions id ≡ Some session) × Stands keys v id session kept events) ⊎ OpenedFrom kept events id session

  later_opened : (event : Event) (later : List Event) (kept : Kept) (id : List ℕ) (session : SeenSession) → OpenedFrom (next kept event) later id session → OpenedFrom kept (event ∷ later) id session
  later_opened event later kept id session k = record {
    earlier = event ∷ k.earlier;
    opening = k.opening;
    later = k.later;
    among = ap (λ es. event ∷ es) k.among;
    accepts = k.accepts;
    stands = k.stands;
  }

  now_opened : (o : Opening) (later : List Event) (kept : Kept) (id : List ℕ) (session : SeenSession) → Opens kept o id session → Stands keys v id session (next kept (opens o)) later
      → OpenedFrom kept (opens o ∷ later) id session
  now_opened o later kept id session accepts stands =
      record { earlier = []; opening = o; later = later; among = refl; accepts = accepts; stands = stands }

  -- a session that stands behind an event stood before it, or the event opened it
  step_back : (event : Event) (later : List Event) (kept : Kept) (id : List ℕ) (session : SeenSession) → finite.get (next kept event).sessions id ≡ Some session
      → Stands keys v id session (next kept event) later → Origin kept (event ∷ later) id session
  step_back (opens o) later kept id session h stands =
      ⊎_elim
      (λ was. inl (was.0, (was.1, stands)))
      (λ accepts. inr (now_opened o later kept id session accepts stands))
      (opened_there (open_reply kept.sessions o) kept o id session refl h)
  step_back (looks l) later kept id session h stands = inl (h, (refl, stands))
  step_back (closes other) later kept id session h stands =
      let was = was_elsewhere (bytes_eq other id) (finite.get kept.sessions id) session (sym (get_removed kept.sessions other id) ∙ h) in
      inl (was.0, (was.1, stands))
  step_back (sweeps now) later kept id session h stands =
      let was = standing (has_ended now) kept.sessions id session h in
      inl (was.0, (was.1, stands))
  step_back (logs_out p) later kept id session h stands =
      let was = was_named (logout_in keys v kept p) kept id session h in
      inl (was.0, (was.1, stands))

  origin : (events : List Event) (kept : Kept) (id : List ℕ) (session : SeenSession) → finite.get (kept_from keys v kept events).sessions id ≡ Some session → Origin kept events id session
  origin [] kept id session h = inl (h, tt)
  origin (event ∷ later) kept id session h =
      ⊎_elim
      (λ was. step_back event later kept id session was.0 was.1)
      (λ k. inr (later_opened event later kept id session k))
      (origin later (next kept event) id session h)

  none_some : (session : SeenSession) → None ≡ Some session → ⊥
  none_some session e = absurd cc

  nothing_at : (id : List ℕ) (session : SeenSession) → finite.get nothing.sessions id ≡ Some session → ⊥
  nothing_at id session h = absurd (none_some session (sym (finite.get-empty _ id) ∙ h))

  to_opened : (events : List Event) (id : List ℕ) (now : ℤ) (session : SeenSession) → ends_after now session ≡ true → OpenedFrom nothing events id session → WasOpened keys v events id now session
  to_opened events id now session after k = record {
    earlier = k.earlier;
    opening = k.opening;
    later = k.later;
    among = k.among;
    own_id = k.accepts.0;
    own_session = k.accepts.1;
    accepted = k.accepts.2;
    unended = after;
    stands = k.stands;
  }

  forth : (events : List Event) (id : List ℕ) (now : ℤ) (session : SeenSession) → session_at (kept_of keys v events).sessions id now ≡ Some session → WasOpened keys v events id now session
  forth events id now session h =
      let live = live_some now (finite.get (kept_of keys v events).sessions id) session h in
      ⊎_elim
      (λ was. absurd (nothing_at id session was.0))
      (λ k. to_opened events id now session live.1 k)
      (origin events nothing id session live.0)

  back : (events : List Event) (id : List ℕ) (now : ℤ) (session : SeenSession) → WasOpened keys v events id now session → session_at (kept_of keys v events).sessions id now ≡ Some session
  back events id now session k =
      let before = kept_of keys v k.earlier in
      let put : finite.get (next before (opens k.opening)).sessions id ≡ Some session = opened_here (open_reply before.sessions k.opening) before k.opening id session k.accepted k.own_id k.own_session in
      let behind : kept_from keys v nothing (k.earlier ++ opens k.opening ∷ []) ≡ next before (opens k.opening) = kept_append k.earlier (opens k.opening ∷ []) nothing in
      let at : finite.get (kept_from keys v nothing (k.earlier ++ opens k.opening ∷ [])).sessions id ≡ Some session = subst (λ (m : Kept). finite.get m.sessions id ≡ Some session) (sym behind) put in
      let kept : finite.get (kept_from keys v (kept_from keys v nothing (k.earlier ++ opens k.opening ∷ [])) k.later).sessions id ≡ Some session = stands_keeps k.later _ id session at k.stands in
      let whole : kept_of keys v events ≡ kept_from keys v (kept_from keys v nothing (k.earlier ++ opens k.opening ∷ [])) k.later = ap (kept_of keys v) k.among ∙ kept_append_two k.earlier (opens k.opening) k.later nothing in
      live_back now (finite.get (kept_of keys v events).sessions id) session (ap (λ (m : Kept). finite.get m.sessions id) whole ∙ kept) k.unended

  pub answers_until_end : AnswersUntilEnd keys v
  answers_until_end events id now session = (forth events id now session, back events id now session)

  -- ---- each session by itself

  module _ (id : List ℕ) where
    -- two stores that have the same session at the id, and accepted the same tokens
    record Alike (m n : Kept) : Type 0 where
      same_session : finite.get m.sessions id ≡ finite.get n.sessions id
      same_tokens : m.token_ids ≡ n.token_ids

    without_alike : (gone : SeenSession → Bool) (m n : Sessions) → finite.get m id ≡ finite.get n id → finite.get (without gone m) id ≡ finite.get (without gone n) id
    without_alike gone m n same = get_without gone m id ∙ ap (left_of gone) same ∙ sym (get_without gone n id)

    left_alike : (meant : Result SeenLogout LogoutError) (m n : Kept) → Alike m n → Alike (left_by m meant) (left_by n meant)
    left_alike (Ok logout) m n alike = record {
      same_session = without_alike (ends_session logout) m.sessions n.sessions alike.same_session;
      same_tokens = ap (λ ids. set.insert ids logout.token_id) alike.same_tokens;
    }
    left_alike (Err why) m n alike = alike

    -- a sweep or a logout, in both
    all_alike : (event : Event) (m n : Kept) → is_about_all event ≡ true → Alike m n → Alike (next m event) (next n event)
    all_alike (opens o) m n is alike = absurd (false≢true is)
    all_alike (looks l) m n is alike = absurd (false≢true is)
    all_alike (closes other) m n is alike = absurd (false≢true is)
    all_alike (sweeps now) m n is alike = record {
      same_session = without_alike (has_ended now) m.sessions n.sessions alike.same_session;
      same_tokens = alike.same_tokens;
    }
    all_alike (logs_out p) m n is alike =
        subst (λ meant. Alike (left_by m (logout_in keys v m p)) (left_by n meant))
        (ap (λ ids. accepted_logout keys v ids p.now p.text) alike.same_tokens)
        (left_alike (logout_in keys v m p) m n alike)

    put_other : (b : Bool) (o : SeenSession) (x y : Option SeenSession) → b ≡ false → x ≡ y → cond b (Some o) x ≡ y
    put_other true o x y e same = absurd (false≢true (sym e))
    put_other false o x y e same = same

    take_other : (b : Bool) (x y : Option SeenSession) → b ≡ false → x ≡ y → cond b None x ≡ y
    take_other true x y e same = absurd (false≢true (sym e))
    take_other false x y e same = same

    opened_other : (r : Result (Unit {0}) OpenError) (m n : Kept) (o : Opening) → bytes_eq o.id id ≡ false → Alike m n → Alike (opened_by r m o) n
    opened_other (Ok u) m n o e alike = record {
      same_session = get_inserted m.sessions o.id o.session id ∙ put_other (bytes_eq o.id id) o.session _ _ e alike.same_session;
      same_tokens = alike.same_tokens;
    }
    opened_other (Err why) m n o e alike = alike

    -- a call about another id, in one
    other_alike : (event : Event) (m n : Kept) → is_about id event ≡ false → is_about_all event ≡ false → Alike m n → Alike (next m event) n
    other_alike (opens o) m n e all alike = opened_other (open_reply m.sessions o) m n o e alike
    other_alike (looks l) m n e all alike = alike
    other_alike (closes other) m n e all alike = record {
      same_session = get_removed m.sessions other id ∙ take_other (bytes_eq other id) _ _ e alike.same_session;
      same_tokens = alike.same_tokens;
    }
    other_alike (sweeps now) m n e all alike = absurd (false≢true (sym all))
    other_alike (logs_out p) m n e all alike = absurd (false≢true (sym all))

    found_alike : (m n : Kept) (other : List ℕ) → bytes_eq other id ≡ true → Alike m n → finite.get m.sessions other ≡ finite.get n.sessions other
    found_alike m n other is alike =
        let same = (bytes_decides other id).0 is in
        ap (finite.get m.sessions) same ∙ alike.same_session ∙ sym (ap (finite.get n.sessions) same)

    opened_alike : (r : Result (Unit {0}) OpenError) (m n : Kept) (o : Opening) → Alike m n → Alike (opened_by r m o) (opened_by r n o)
    opened_alike (Ok u) m n o alike = record {
      same_session = get_inserted m.sessions o.id o.session id ∙ ap (λ x. cond (bytes_eq o.id id) (Some o.session) x) alike.same_session ∙ sym (get_inserted n.sessions o.id o.session id);
      same_tokens = alike.same_tokens;
    }
    opened_alike (Err why) m n o alike = alike

    -- the reply to an open, by what stands at its id
    abbrev reply_by : Opening → Option SeenSession → Result (Unit {0}) OpenError
    reply_by o found = do
      Ended when not (ends_after o.now o.session)
      Taken when is_some (if_live o.now found)

    -- a call about the id has the same reply in both
    reply_alike : (event : Event) (m n : Kept) → is_about id event ≡ true → Alike m n → (step keys v m event).reply ≡ (step keys v n event).reply
    reply_alike (opens o) m n is alike = ap (λ found. opened (reply_by o found)) (found_alike m n o.id is alike)
    reply_alike (looks l) m n is alike = ap (λ found. looked (if_live l.now found)) (found_alike m n l.id is alike)
    reply_alike (closes other) m n is alike = ap (λ found. closed (is_some found)) (found_alike m n other is alike)
    reply_alike (sweeps now) m n is alike = absurd (false≢true is)
    reply_alike (logs_out p) m n is alike = absurd (false≢true is)

    own_alike : (event : Event) (m n : Kept) → is_about id event ≡ true → Alike m n → Alike (next m event) (next n event)
    own_alike (opens o) m n is alike =
        subst (λ r. Alike (opened_by (open_reply m.sessions o) m o) (opened_by r n o)) (ap (reply_by o) (found_alike m n o.id is alike))
        (opened_alike (open_reply m.sessions o) m n o alike)
    own_alike (looks l) m n is alike = alike
    own_alike (closes other) m n is alike = record {
      same_session = get_removed m.sessions other id ∙ ap (λ x. cond (bytes_eq other id) None x) alike.same_session ∙ sym (get_removed n.sessions other id);
      same_tokens = alike.same_tokens;
    }
    own_alike (sweeps now) m n is alike = absurd (false≢true is)
    own_alike (logs_out p) m n is alike = absurd (false≢true is)

    -- ---- whole runs

    abbrev is_own : Event × Reply → Bool
    is_own turn = is_about id turn.0

    abbrev own_turns : List Event → Kept → List (Event × Reply)
    own_turns events kept = filter is_own (turns_from keys v kept events)

    abbrev turn_at : Event → Kept → Event × Reply
    turn_at event kept = (event, (step keys v kept event).reply)

    -- a call, whether it is about the id or about all
    runs_step : (event : Event) (rest others : List Event) (m n : Kept) → Alike m n
        → ((p q : Kept) → Alike p q → own_turns rest p ≡ own_turns others q)
        → (a : Bool) → is_about id event ≡ a → (b : Bool) → is_about_all event ≡ b
        → own_turns (event ∷ rest) m ≡ own_turns (cond (is_about id event || is_about_all event) (event ∷ others) others) n
    runs_step event rest others m n alike more true own b all =
        let x = own_turns rest (next m event) in
        let y = own_turns others (next n event) in
        let left : own_turns (event ∷ rest) m ≡ turn_at event m ∷ x = λ i. cond (own i) (turn_at event m ∷ x) x in
        let right : own_turns (event ∷ others) n ≡ turn_at event n ∷ y = λ i. cond (own i) (turn_at event n ∷ y) y in
        let whole : own_turns (cond (is_about id event || is_about_all event) (event ∷ others) others) n ≡ own_turns (event ∷ others) n =
        λ i. own_turns (cond (own i || is_about_all event) (event ∷ others) others) n in
        let same : turn_at event m ≡ turn_at event n = λ i. (event, reply_alike event m n own alike i) in
        left ∙ (λ i. same i ∷ more (next m event) (next n event) (own_alike event m n own alike) i) ∙ sym right ∙ sym whole
    runs_step event rest others m n alike more false own true all =
        let x = own_turns rest (next m event) in
        let y = own_turns others (next n event) in
        let left : own_turns (event ∷ rest) m ≡ x = λ i. cond (own i) (turn_at event m ∷ x) x in
        let right : own_turns (event ∷ others) n ≡ y = λ i. cond (own i) (turn_at event n ∷ y) y in
        let whole : own_turns (cond (is_about id event || is_about_all event) (event ∷ others) others) n ≡ own_turns (event ∷ others) n =
        λ i. own_turns (cond (own i || all i) (event ∷ others) others) n in
        left ∙ more (next m event) (next n event) (all_alike event m n all alike) ∙ sym right ∙ sym whole
    runs_step event rest others m n alike more false own false all =
        let x = own_turns rest (next m event) in
        let left : own_turns (event ∷ rest) m ≡ x = λ i. cond (own i) (turn_at event m ∷ x) x in
        let whole : own_turns (cond (is_about id event || is_about_all event) (event ∷ others) others) n ≡ own_turns others n =
        λ i. own_turns (cond (own i || all i) (event ∷ others) others) n in
        left ∙ more (next m event) n (other_alike event m n own all alike) ∙ sym whole

    runs : (events : List Event) (m n : Kept) → Alike m n → own_turns events m ≡ own_turns (concerning id events) n
    runs [] m n alike = refl
    runs (event ∷ later) m n alike =
        runs_step event later (concerning id later) m n alike (runs later) (is_about id event) refl (is_about_all event) refl

  pub runs_as_alone : RunsAsAlone keys v
  runs_as_alone events id = runs id events nothing nothing (record { same_session = refl; same_tokens = refl })
