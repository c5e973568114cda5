-- The text of an object that was written is cut at the commas and colons that were written.
use Rattle.std.proofs.Common.{◌≡◌, ℕ, ◌+◌, ◌-◌, ◌<◌, ◌≤◌, true, false, ltb, ◌||◌, inl, inr, List, [], ◌∷◌, ◌++◌, length, take, drop, get_or, map, Option, Some, refl, ap, ◌∙◌, subst, arith}
use Rattle.std.proofs.lemmas.Bool.{or_parts, cases_lt, cases_eq, false≢true, lt-ltb}
use Rattle.std.proofs.lemmas.List.{length-drop}
use Rattle.std.proofs.lemmas.List.Sums.{list_all-from_AllPass}
use Rattle.std.proofs.Math.Seq.{take-append_seam}
use Rattle.std.specs.List.{list_all, slice_split}
use Rattle.json.specs.Print.{quoted}
use Rattle.serde_json.specs.Written.{has_float, members_have_float, compact_text, members_text}
use Rattle.oidc_members.specs.Seen.{OutSeen}
use Rattle.oidc_members.specs.Write.{data_of, object_text, any_float}
use Rattle.oidc_members.specs.Places.{places, level, is_at_level_one}
use Rattle.oidc_members.specs.Objects.{Halves, is_space, between, halves, pieces, is_braced}
use Rattle.oidc_members.proofs.Theorems.{split_cut, split_uncut, all_places, all_fails, halves_cut, braced, pieces_cut}
use Rattle.oidc_readers.proofs.Scans.{State, At, Passed, First, outside_at, at_start, at_step, level_at, mark_at, first_of, passes}
use Rattle.oidc_readers.proofs.Values.{quoted_runs, value_runs}

abbrev outer : State
outer = outside_at 1

-- the halves of a member as they were written
abbrev pub half_of : OutSeen → Option Halves
half_of m = Some (quoted m.name, compact_text m.value)

-- one member stands from a place up to another
record OneMember (xs : List ℕ) (a e : ℕ) (m : OutSeen) (tail : List ℕ) : Type 0 where
  at : At xs e outer
  left : drop e xs ≡ tail
  low : a < e
  within : e ≤ length xs
  comma : (k : ℕ) → a ≤ k → k < e → is_at_level_one xs 44 k ≡ false
  level : (k : ℕ) → a ≤ k → k < e → ltb 0 (level xs k) ≡ true
  halves : halves xs (places a e) ≡ half_of m

one_member : (xs : List ℕ) (a c e : ℕ) (m : OutSeen) (tail : List ℕ) → a ≤ length xs → c ≡ a + length (quoted m.name) → e ≡ (c + 1) + length (compact_text m.value)
    → has_float m.value ≡ false → drop a xs ≡ quoted m.name ++ 58 ∷ (compact_text m.value ++ tail) → At xs a outer → OneMember xs a e m tail
one_member xs a c e m tail low far further whole is at =
    let first : Passed xs a c (58 ∷ (compact_text m.value ++ tail)) outer = passes (quoted m.name) xs (58 ∷ (compact_text m.value ++ tail)) a c outer outer low far is (quoted_runs m.name 0) at in
    let mark : First xs c 58 (compact_text m.value ++ tail) = first_of xs c 58 (compact_text m.value ++ tail) first.left in
    let next : At xs (c + 1) outer = at_step xs c outer 58 mark.within mark.here (λ b. absurd (false≢true b)) first.at in
    let then : Passed xs (c + 1) e tail outer = passes (compact_text m.value) xs tail (c + 1) e outer outer (omega (arith, mark.within)) further mark.left (value_runs m.value 0 whole) next in
    let name_len : c - a ≡ length (quoted m.name) = omega arith in
    let value_len : e - (c + 1) ≡ length (compact_text m.value) = omega arith in
    record {
      at = then.at;
      left = then.left;
      low = omega arith;
      within = then.within;
      comma = λ k p q. elim (cases_lt k c) [
        | inl before ↦ (first.quiet k p before).comma
        | inr after ↦ elim (cases_eq k c) [
          | inl same ↦ ap (is_at_level_one xs 44) same ∙ mark_at xs c outer 58 44 mark.here first.at
          | inr other ↦ (then.quiet k (omega arith) q).comma
        ]
      ];
      level = λ k p q. elim (cases_lt k c) [
        | inl before ↦ (first.quiet k p before).level
        | inr after ↦ elim (cases_eq k c) [
          | inl same ↦ lt-ltb 0 (level xs k) (omega (arith, ap (level xs) same, level_at xs c outer first.at))
          | inr other ↦ (then.quiet k (omega arith) q).level
        ]
      ];
      halves =
          halves_cut xs a c e (omega arith) (omega arith) then.within (λ k p q. (first.quiet k p q).colon) (mark_at xs c outer 58 58 mark.here first.at)
          ∙ ap Some (λ j. (
            ((λ i. take (name_len i) (is i)) ∙ take-append_seam (quoted m.name) (58 ∷ (compact_text m.value ++ tail))) j,
            ((λ i. take (value_len i) (mark.left i)) ∙ take-append_seam (compact_text m.value) tail) j,
          ));
    }

-- the members stand from a place up to the last one
record CutFrom (xs : List ℕ) (a last : ℕ) (ms : List OutSeen) : Type 0 where
  low : a < last
  ends : length xs ≡ last + 1
  at : At xs last outer
  here : get_or xs last 0 ≡ 125
  level : (k : ℕ) → a ≤ k → k < last → ltb 0 (level xs k) ≡ true
  parts : map (halves xs) (slice_split (is_at_level_one xs 44) (places a last)) ≡ map half_of ms

last_cut : (xs : List ℕ) (a e : ℕ) (m : OutSeen) → OneMember xs a e m (125 ∷ []) → CutFrom xs a (length xs - 1) (m ∷ [])
last_cut xs a e m one =
    let f : First xs e 125 [] = first_of xs e 125 [] one.left in
    let end : length xs ≡ e + 1 = omega (arith, f.within, length-drop (e + 1) xs, ap length f.left) in
    let same : e ≡ length xs - 1 = omega arith in
    subst (λ l. CutFrom xs a l (m ∷ [])) same (record {
      low = one.low;
      ends = end;
      at = one.at;
      here = f.here;
      level = one.level;
      parts = ap (map (halves xs)) (split_uncut (is_at_level_one xs 44) a e one.comma) ∙ ap (λ h. h ∷ []) one.halves;
    })

first_cut : (xs : List ℕ) (a e last : ℕ) (m : OutSeen) (ms : List OutSeen) (tail : List ℕ) → OneMember xs a e m (44 ∷ tail) → CutFrom xs (e + 1) last ms → CutFrom xs a last (m ∷ ms)
first_cut xs a e last m ms tail one more =
    let f : First xs e 44 tail = first_of xs e 44 tail one.left in
    record {
      low = omega (arith, one.low, more.low);
      ends = more.ends;
      at = more.at;
      here = more.here;
      level = λ k p q. elim (cases_lt k e) [
        | inl before ↦ one.level k p before
        | inr after ↦ elim (cases_eq k e) [
          | inl same ↦ lt-ltb 0 (level xs k) (omega (arith, ap (level xs) same, level_at xs e outer one.at))
          | inr other ↦ more.level k (omega arith) q
        ]
      ];
      parts =
          ap (map (halves xs)) (split_cut (is_at_level_one xs 44) a e last (omega (arith, one.low)) (omega (arith, more.low)) one.comma (mark_at xs e outer 44 44 f.here one.at))
          ∙ (λ j. one.halves j ∷ more.parts j);
    }

members_cut : (m : OutSeen) (ms : List OutSeen) (xs : List ℕ) (a : ℕ) → a ≤ length xs → any_float (m ∷ ms) ≡ false
    → drop a xs ≡ members_text false (data_of (m ∷ ms)) → At xs a outer → CutFrom xs a (length xs - 1) (m ∷ ms)
members_cut m [] xs a low whole is at =
    let p = or_parts (has_float m.value) _ whole in
    let c = a + length (quoted m.name) in
    let e = (c + 1) + length (compact_text m.value) in
    last_cut xs a e m (one_member xs a c e m (125 ∷ []) low refl refl p.0 is at)
members_cut m (n ∷ ms) xs a low whole is at =
    let p = or_parts (has_float m.value) _ whole in
    let c = a + length (quoted m.name) in
    let e = (c + 1) + length (compact_text m.value) in
    let tail = members_text false (data_of (n ∷ ms)) in
    let one : OneMember xs a e m (44 ∷ tail) = one_member xs a c e m (44 ∷ tail) low refl refl p.0 is at in
    let f : First xs e 44 tail = first_of xs e 44 tail one.left in
    let next : At xs (e + 1) outer = at_step xs e outer 44 f.within f.here (λ b. absurd (false≢true b)) one.at in
    first_cut xs a e (length xs - 1) m (n ∷ ms) tail one (members_cut n ms xs (e + 1) (omega (arith, f.within)) p.1 f.left next)

-- ---- the whole text

pub float_free : (ms : List OutSeen) → members_have_float (data_of ms) ≡ any_float ms
float_free [] = refl
float_free (m ∷ ms) = ap (λ b. has_float m.value || b) (float_free ms)

-- The text is braced, and its pieces are those of the members.
pub record Cut (xs : List ℕ) (ms : List OutSeen) : Type 0 where
  pub braced : is_braced xs ≡ true
  pub parts : map (halves xs) (pieces xs) ≡ map half_of ms

pub object_cut : (m : OutSeen) (ms : List OutSeen) → any_float (m ∷ ms) ≡ false → Cut (object_text (m ∷ ms)) (m ∷ ms)
object_cut m ms whole =
    let xs = object_text (m ∷ ms) in
    let start : At xs 1 outer = at_step xs 0 (outside_at 0) 123 (omega arith) refl (λ b. absurd (false≢true b)) (at_start xs) in
    let cut : CutFrom xs 1 (length xs - 1) (m ∷ ms) = members_cut m ms xs 1 (omega arith) whole refl start in
    let end : is_at_level_one xs 125 (length xs - 1) ≡ true = mark_at xs (length xs - 1) outer 125 125 cut.here cut.at in
    let levels : list_all (λ k. ltb 0 (level xs k)) (between xs) ≡ true = list_all-from_AllPass (λ k. ltb 0 (level xs k)) (between xs) (all_places (λ k. ltb 0 (level xs k)) true 1 (length xs - 1) cut.level) in
    let some : list_all (λ i. is_space (get_or xs i 0)) (between xs) ≡ false = all_fails (λ i. is_space (get_or xs i 0)) 1 1 (length xs - 1) (omega arith) cut.low refl in
    record {
      braced = braced xs refl end levels;
      parts = ap (map (halves xs)) (pieces_cut xs some) ∙ cut.parts;
    }
