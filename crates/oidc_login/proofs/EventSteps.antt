-- The events of a run with their steps, from a place on and up to a begin, and the law on valid logins.
use Rattle.std.proofs.Common.{◌≡◌, ℕ, ◌+◌, suc, List, [], ◌∷◌, ◌++◌, length, take, drop, map, Bool, true, false, cond, refl, ap, ◌∙◌, arith}
use Rattle.std.specs.Prelude.{not}
use Rattle.std.specs.FinMap as finite
use Rattle.std.specs.List.{take_while, prefix_len, zip}
use Rattle.oidc_login.specs.Types.{SeenLoginClient, SiteTypes}
use Rattle.oidc_login.specs.Logins.{Pending}
use Rattle.oidc_login.specs.Events.{Event, calls, called, called_with, step, steps_from, store_from, store_of, EventStep, begins_again, ValidSignsIn}
use Rattle.oidc_login.proofs.Causes.{signs_in}
use Rattle.oidc_login.proofs.Valid.{signed_of_valid}

-- ---- a list up to the first that doesn't pass

taken_by : {A : Type 0} (x : A) (xs : List A) (n : ℕ) (b : Bool) → take (cond b (1 + n) 0) (x ∷ xs) ≡ cond b (x ∷ take n xs) []
taken_by x xs n true =
    let more : 1 + n ≡ suc n = omega arith in
    ap (λ k. take k (x ∷ xs)) more
taken_by x xs n false = refl

pub taken_more : {A : Type 0} (p : A → Bool) (x : A) (xs : List A) → take_while p (x ∷ xs) ≡ cond (p x) (x ∷ take_while p xs) []
taken_more p x xs = taken_by x xs (prefix_len p xs) (p x)

-- ---- events with their steps

-- a step that is no accepted begin of this state
abbrev pub goes_on : {AC GC : Type 0} → List ℕ → EventStep AC GC → Bool
goes_on s turn = not (begins_again s turn)

module _ {AC GC Key Use : Type 0} (types : SiteTypes AC GC Key Use) (client : SeenLoginClient Key) where
  -- those from a store on, up to the next accepted begin of a state
  abbrev pub going_on : List ℕ → List Event → Pending → List (EventStep AC GC)
  going_on s later m = take_while (goes_on s) (zip later (steps_from types client m later))

  pub store_behind : (earlier : List Event) (event : Event) (m : Pending)
      → store_from types client m (earlier ++ event ∷ []) ≡ (step types client (store_from types client m earlier) event).pending
  store_behind [] event m = refl
  store_behind (x ∷ earlier) event m = store_behind earlier event (step types client m x).pending

  pub event_steps_dropped : (earlier : List Event) (event : Event) (later : List Event) (m : Pending)
      → drop (suc (length earlier)) (zip (earlier ++ event ∷ later) (steps_from types client m (earlier ++ event ∷ later)))
      ≡ zip later (steps_from types client (store_from types client m (earlier ++ event ∷ [])) later)
  event_steps_dropped [] event later m = refl
  event_steps_dropped (x ∷ earlier) event later m = event_steps_dropped earlier event later (step types client m x).pending

  replies_dropped : (earlier : List Event) (event : Event) (later : List Event) (m : Pending)
      → drop (length earlier) (map (λ s. s.reply) (steps_from types client m (earlier ++ event ∷ later)))
      ≡ (step types client (store_from types client m earlier) event).reply
      ∷ map (λ s. s.reply) (steps_from types client (step types client (store_from types client m earlier) event).pending later)
  replies_dropped [] event later m = refl
  replies_dropped (x ∷ earlier) event later m = replies_dropped earlier event later (step types client m x).pending

module _ {AC GC Key Use : Type 0} (types : SiteTypes AC GC Key Use) where
  pub valid_signs_in : ValidSignsIn types
  valid_signs_in client earlier later c valid =
      let m = store_of types client earlier in
      let a = called_with client m c in
      let v = signed_of_valid types a c.answers valid in
      let behind = map (λ s. s.reply) (steps_from types client (step types client m (calls c)).pending later) in
      (v.0, behind, replies_dropped types client earlier (calls c) later finite.empty ∙ ap (λ reply. called reply ∷ behind) (signs_in types a c.answers v.0 v.1))
