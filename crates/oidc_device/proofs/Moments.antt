-- What is due at a moment, by its cases, and back.
use Rattle.std.proofs.Common.{◌≡◌, ℕ, ◌+◌, ◌<◌, ◌≤◌, ℤ, Bool, true, false, cond, refl, sym, ap, subst, ◌∙◌, arith}
use Rattle.std.specs.Prelude.{pos, negsuc, ◌+ℤ◌, ◌-ℤ◌, ◌<ℤ◌, ◌≤ℤ◌}
use Rattle.std.specs.Int.{int_gap, div_ceil, Width}
use mir.Val.{of_z}
use Rattle.std.proofs.lemmas.Int.{ints}
use Rattle.std.proofs.lemmas.Grind.{div_ceil_times}
use Rattle.oidc_oauth2.specs.TokenResponse.{seconds}
use Rattle.oidc_device.specs.Logins.{Polling, due}
use Rattle.oidc_device.specs.DeviceStep.{has_come, seconds_until}
use Rattle.oidc_device.specs.Causes.{HasExpired, Waits, IsDue}
use Rattle.oidc_device.specs.Steps.{turn_of}
use Rattle.oidc_device.specs.declared.clock.Turn.{Turn}
use Rattle.oidc_device.specs.declared.clock.Turn.TheVariants as turn

-- ---- moments

come : (moment now : ℤ) → has_come moment now ≡ true → moment ≤ℤ now
come moment now h = grind (arith, ints)

to_come : (moment now : ℤ) → has_come moment now ≡ false → now <ℤ moment
to_come moment now h = grind (arith, ints)

come_back : (moment now : ℤ) → moment ≤ℤ now → has_come moment now ≡ true
come_back moment now h = grind (arith, ints)

to_come_back : (moment now : ℤ) → now <ℤ moment → has_come moment now ≡ false
to_come_back moment now h = grind (arith, ints)

pub never_both : (a b : ℤ) → a <ℤ b → b ≤ℤ a → ⊥
never_both a b less more = omega (arith, ints)

-- what is left up to a later moment
gap_sum : (moment now : ℤ) → now <ℤ moment → moment ≡ now +ℤ pos (int_gap now moment)
gap_sum (pos m) (pos n) h = omega (arith, ints)
gap_sum (pos m) (negsuc n) h = omega (arith, ints)
gap_sum (negsuc m) (pos n) h = absurd (omega (arith, ints))
gap_sum (negsuc m) (negsuc n) h = omega (arith, ints)

gap_some : (moment now : ℤ) → now <ℤ moment → 0 < int_gap now moment
gap_some (pos m) (pos n) h = omega (arith, ints)
gap_some (pos m) (negsuc n) h = omega (arith, ints)
gap_some (negsuc m) (pos n) h = absurd (omega (arith, ints))
gap_some (negsuc m) (negsuc n) h = omega (arith, ints)

same_gap : (moment now : ℤ) (left : ℕ) → moment ≡ now +ℤ pos left → int_gap now moment ≡ left
same_gap (pos m) (pos n) left is = omega (arith, ints)
same_gap (pos m) (negsuc n) left is = omega (arith, ints)
same_gap (negsuc m) (pos n) left is = absurd (omega (arith, ints))
same_gap (negsuc m) (negsuc n) left is = omega (arith, ints)

less_gap : (moment now : ℤ) (left : ℕ) → moment ≡ now +ℤ pos left → moment -ℤ now ≡ pos left
less_gap moment now left is = omega (arith, ints)

-- the same by what the code takes
pub gap_bits : (w : Width) (moment now : ℤ) → now <ℤ moment → of_z w (moment -ℤ now) ≡ int_gap now moment
gap_bits w moment now h =
    let is : moment -ℤ now ≡ pos (int_gap now moment) = less_gap moment now (int_gap now moment) (gap_sum moment now h) in
    ap (of_z w) is

less_by : (moment now : ℤ) (left : ℕ) → 0 < left → moment ≡ now +ℤ pos left → now <ℤ moment
less_by moment now left some is = omega (arith, ints)

-- ---- seconds, rounded up

rounded : (n : ℕ) → (n ≤ seconds (div_ceil n 1_000_000_000)) × (seconds (div_ceil n 1_000_000_000) < n + seconds 1)
rounded n = div_ceil_times n 1_000_000_000 (omega arith)

-- no two numbers of seconds are the least that suffice
least : (n a b : ℕ) → n ≤ seconds a → seconds a < n + seconds 1 → n ≤ seconds b → seconds b < n + seconds 1 → a ≡ b
least n a b enough_a least_a enough_b least_b = omega arith

-- ---- turns

abbrev pub IsTurn : Polling → ℤ → Turn → Type 0
IsTurn p now turn.Over = p.is_over ≡ true
IsTurn p now turn.Expired = HasExpired p now
IsTurn p now (turn.Wait wait) = Waits p now wait
IsTurn p now turn.Poll = IsDue p now

module _ (p : Polling) (now : ℤ) where
  abbrev by_tests : Bool → Bool → Bool → Turn
  by_tests over expired come =
      cond over turn.Over (cond expired turn.Expired (cond come turn.Poll (turn.Wait (seconds_until (due p) now))))

  waits : p.is_over ≡ false → now <ℤ p.expiry → now <ℤ due p → Waits p now (seconds_until (due p) now)
  waits not_over unexpired early =
      let up = rounded (int_gap now (due p)) in record {
        not_over = not_over;
        unexpired = unexpired;
        left = int_gap now (due p);
        some_left = gap_some (due p) now early;
        due_then = gap_sum (due p) now early;
        enough = up.0;
        no_second_more = up.1;
      }

  facts_by : (over expired come : Bool) → p.is_over ≡ over → has_come p.expiry now ≡ expired → has_come (due p) now ≡ come → IsTurn p now (by_tests over expired come)
  facts_by true expired is_due is_over is_expired is_come = is_over
  facts_by false true is_due is_over is_expired is_come = record { not_over = is_over; expired = come p.expiry now is_expired }
  facts_by false false true is_over is_expired is_come =
      record { not_over = is_over; unexpired = to_come p.expiry now is_expired; due_before = come (due p) now is_come }
  facts_by false false false is_over is_expired is_come =
      waits is_over (to_come p.expiry now is_expired) (to_come (due p) now is_come)

  pub turn_facts : IsTurn p now (turn_of p now)
  turn_facts = facts_by _ _ _ refl refl refl

  pub turn_is : (t : Turn) → t ≡ turn_of p now → IsTurn p now t
  turn_is t is = subst (IsTurn p now) (sym is) turn_facts

  -- ---- back

  turn_by : (over expired come : Bool) → p.is_over ≡ over → has_come p.expiry now ≡ expired → has_come (due p) now ≡ come → turn_of p now ≡ by_tests over expired come
  turn_by over expired come is_over is_expired is_come =
      ap (λ b. by_tests b (has_come p.expiry now) (has_come (due p) now)) is_over
      ∙ ap (λ b. by_tests over b (has_come (due p) now)) is_expired
      ∙ ap (λ b. by_tests over expired b) is_come

  pub over_turn : p.is_over ≡ true → turn_of p now ≡ turn.Over
  over_turn is = turn_by true _ _ is refl refl

  pub expired_turn : HasExpired p now → turn_of p now ≡ turn.Expired
  expired_turn x = turn_by false true _ x.not_over (come_back p.expiry now x.expired) refl

  pub due_turn : IsDue p now → turn_of p now ≡ turn.Poll
  due_turn x = turn_by false false true x.not_over (to_come_back p.expiry now x.unexpired) (come_back (due p) now x.due_before)

  early : (wait : ℕ) → Waits p now wait → now <ℤ due p
  early wait x =
      less_by (due p) now x.left x.some_left x.due_then

  own_wait : (wait : ℕ) → Waits p now wait → seconds_until (due p) now ≡ wait
  own_wait wait x =
      let gap = same_gap (due p) now x.left x.due_then in
      let up = rounded x.left in
      ap (λ n. div_ceil n 1_000_000_000) gap ∙ least x.left _ wait up.0 up.1 x.enough x.no_second_more

  pub wait_turn : (wait : ℕ) → Waits p now wait → turn_of p now ≡ turn.Wait wait
  wait_turn wait x =
      turn_by false false false x.not_over (to_come_back p.expiry now x.unexpired) (to_come_back (due p) now (early wait x))
      ∙ ap turn.Wait (own_wait wait x)

  -- ---- no two of them

  pub never_waits : (wait : ℕ) → IsDue p now → Waits p now wait → ⊥
  never_waits wait is_due x = let both = sym (due_turn is_due) ∙ wait_turn wait x in absurd (cc)

  pub same_wait : (a b : ℕ) → Waits p now a → Waits p now b → a ≡ b
  same_wait a b x y = let both = sym (wait_turn a x) ∙ wait_turn b y in cc
