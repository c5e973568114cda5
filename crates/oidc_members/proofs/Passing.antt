-- The plain bytes of a string change nothing.
use Rattle.std.proofs.Common.{◌≡◌, ℕ, zero, suc, ◌+◌, ◌-◌, ◌<◌, ◌≤◌, Bool, true, false, not, cond, eqb, ltb, ◌&&◌, ◌||◌, List, Option, Some, None, length, drop, get_or, inl, inr, refl, sym, ap, ◌∙◌, subst, arith, add-zero}
use Rattle.std.specs.List.{list_all, slice_range}
use Rattle.std.proofs.lemmas.List.{get_or-take, get_or-drop, length-take-le, length-drop}
use Rattle.memchr.specs.Find.{Nowhere, Passes, is_byte2}
use Rattle.std.proofs.lemmas.List.Folds.{list_all-append}
use Rattle.std.proofs.lemmas.List.Sums.{list_all-from_AllPass}
use Rattle.std.proofs.lemmas.Bool.{or_parts, cases_lt, cases_eq, lt-ltb}
use Rattle.oidc_members.specs.declared.scan.Scan.{Scan}
use Rattle.oidc_members.specs.Places.{places, quote, backslash, is_even, backslashes, is_outside, opened, closed, level, opens, closes, comma, colon, is_at_level_one}
use Rattle.oidc_members.specs.Scan.{IsAt, IsPassed, ArePlain}
use Rattle.oidc_members.specs.Cut.{IsFirst, IsCutUpTo}
use Rattle.oidc_members.specs.declared.cut.Cuts.{Cuts}
use Rattle.oidc_members.proofs.Steps.{outside_behind, escapes_more, opened_more, closed_more}
use Rattle.oidc_members.proofs.Cutting.{places_at, all_places}

plain_step : (xs : List ℕ) (i : ℕ) (scan : Scan) → i < length xs → scan.in_string ≡ true → scan.escaped ≡ false
    → (eqb (get_or xs i 0) quote || eqb (get_or xs i 0) backslash) ≡ false → IsAt xs i scan → IsAt xs (i + 1) scan
plain_step xs i scan lt in_string escaped plain at =
    let marks = or_parts (eqb (get_or xs i 0) quote) (eqb (get_or xs i 0) backslash) plain in
    let inside : is_outside xs i ≡ false = at.outside ∙ ap not in_string in
    let no_open : opens xs i ≡ false = rw inside in
    let no_close : closes xs i ≡ false = rw inside in
    let open_same : opened xs (i + 1) ≡ opened xs i = opened_more xs i ∙ ap (λ b. opened xs i + cond b 1 0) no_open ∙ add-zero (opened xs i) in
    let close_same : closed xs (i + 1) ≡ closed xs i = closed_more xs i ∙ ap (λ b. closed xs i + cond b 1 0) no_close ∙ add-zero (closed xs i) in
    record {
      outside = outside_behind xs i ∙ ap (λ b. cond (b && is_even (backslashes xs i)) (not (is_outside xs i)) (is_outside xs i)) marks.0 ∙ at.outside;
      escapes = escapes_more xs i lt ∙ ap (λ b. not (b && is_even (backslashes xs i))) marks.1 ∙ sym (ap not escaped);
      level = ap (λ n. n + scan.level) close_same ∙ at.level ∙ sym open_same;
      bound = omega (arith, at.bound);
    }

plain_run : (xs : List ℕ) (i n : ℕ) (scan : Scan) → i + n ≤ length xs → scan.in_string ≡ true → scan.escaped ≡ false
    → ArePlain xs i (i + n) → IsAt xs i scan → IsAt xs (i + n) scan
plain_run xs i zero scan fits in_string escaped plain at = let same : i ≡ i + 0 = omega arith in subst (λ k. IsAt xs k scan) same at
plain_run xs i (suc n) scan fits in_string escaped plain at =
    let before = plain_run xs i n scan (omega arith) in_string escaped (λ k low high. plain k low (omega arith)) at in
    let next : (i + n) + 1 ≡ i + suc n = omega arith in
    subst (λ k. IsAt xs k scan) next (plain_step xs (i + n) scan (omega arith) in_string escaped (plain (i + n) (omega arith) (omega arith)) before)

pub passed : (xs : List ℕ) (i j : ℕ) (scan : Scan) → i ≤ j → j ≤ length xs → scan.in_string ≡ true → scan.escaped ≡ false
    → ArePlain xs i j → IsAt xs i scan → IsPassed xs i j scan
passed xs i j scan low high in_string escaped plain at =
    let here : (k : ℕ) → i ≤ k → k ≤ j → IsAt xs k scan =
    λ k l h. let same : i + (k - i) ≡ k = omega arith in
    subst (λ m. IsAt xs m scan) same (plain_run xs i (k - i) scan (omega arith) in_string escaped (λ m a b. plain m a (omega arith)) at) in
    record {
      at = here j low (omega arith);
      inside = λ k l h. (here k l (omega arith)).outside ∙ ap not in_string;
      level = λ k l h. omega (arith, (here k l (omega arith)).level);
    }

pub none_passed : (xs : List ℕ) (i : ℕ) (scan : Scan) → IsAt xs i scan → IsPassed xs i i scan
none_passed xs i scan at = record { at = at; inside = λ k l h. absurd (omega arith); level = λ k l h. absurd (omega arith) }

not_at_level_one : (xs : List ℕ) (byte k : ℕ) → is_outside xs k ≡ false → is_at_level_one xs byte k ≡ false
not_at_level_one xs byte k inside = rw inside

first_kept : (p : ℕ → Bool) (start i j : ℕ) (o : Option ℕ) → i ≤ j → ((k : ℕ) → i ≤ k → k < j → p k ≡ false) → IsFirst p start i o → IsFirst p start j o
first_kept p start i j None le none first = λ k low high.
    elim (cases_lt k i) [ inl lt ↦ first k low lt | inr ge ↦ none k ge high ]
first_kept p start i j (Some c) le none first = (first.0, omega (arith, first.1), first.2, first.3)

-- no item ends and no colon stands where all is inside a string
pub cut_kept : (xs : List ℕ) (last i j : ℕ) (cuts : Cuts) → i ≤ j → ((k : ℕ) → i ≤ k → k < j → is_outside xs k ≡ false)
    → IsCutUpTo xs last i cuts → IsCutUpTo xs last j cuts
cut_kept xs last i j cuts le inside cut =
    record {
      low = cut.low;
      high = omega (arith, cut.high);
      uncut = λ k low high. elim (cases_lt k i) [ inl lt ↦ cut.uncut k low lt | inr ge ↦ not_at_level_one xs comma k (inside k ge high) ];
      first = first_kept (is_at_level_one xs colon) cuts.start i j cuts.colon le (λ k low high. not_at_level_one xs colon k (inside k low high)) cut.first;
      items = cut.items;
    }

pub all_to : (p : ℕ → Bool) (a i j : ℕ) → a ≤ i → i ≤ j → list_all p (places a i) ≡ true → ((k : ℕ) → i ≤ k → k < j → p k ≡ true) → list_all p (places a j) ≡ true
all_to p a i j low high before each =
    ap (list_all p) (places_at a i j low high) ∙ list_all-append p (places a i) (places i j)
    ∙ ap (λ b. b && list_all p (places i j)) before ∙ list_all-from_AllPass p (places i j) (all_places p true i j each)

pub levels_to : (xs : List ℕ) (i j : ℕ) (here behind : Scan) → 1 ≤ i → i + 1 ≤ j → IsAt xs i here → 0 < here.level → IsPassed xs (i + 1) j behind → 0 < behind.level
    → list_all (λ k. ltb 0 (level xs k)) (places 1 i) ≡ true → list_all (λ k. ltb 0 (level xs k)) (places 1 j) ≡ true
levels_to xs i j here behind low high at above passed above_too before =
    let first : level xs i ≡ here.level = omega (arith, at.level) in
    let positive : (n : ℕ) → 0 < n → ltb 0 n ≡ true = λ n lt. lt-ltb 0 n lt in
    all_to (λ k. ltb 0 (level xs k)) 1 i j low (omega arith) before
    (λ k l h. elim (cases_eq k i) [
      | inl e ↦ ap (λ m. ltb 0 (level xs m)) e ∙ ap (ltb 0) first ∙ positive here.level above
      | inr ne ↦ ap (ltb 0) (passed.level k (omega arith) h) ∙ positive behind.level above_too
    ])

pub length_range : (xs : List ℕ) (a b : ℕ) → b ≤ length xs → length (slice_range xs a b) ≡ b - a
length_range xs a b fits = length-take-le (b - a) (drop a xs) (omega (arith, length-drop a xs))

-- a search of some bytes that found nothing before its nth
pub none_found : (xs : List ℕ) (from last n : ℕ) → from + n ≤ last → last ≤ length xs → Nowhere (Passes (is_byte2 quote backslash) (slice_range xs from last)) 0 n
    → ArePlain xs from (from + n)
none_found xs from last n fits within none k low high =
    let m : ℕ = k - from in
    let place : from + m ≡ k = omega arith in
    let same : get_or (slice_range xs from last) m 0 ≡ get_or xs k 0 = get_or-take (last - from) (drop from xs) m 0 (omega arith) ∙ get_or-drop from xs m 0 ∙ ap (λ j. get_or xs j 0) place in
    not_true (eqb (get_or xs k 0) quote || eqb (get_or xs k 0) backslash)
    (λ e. none m (omega arith) (omega arith) (subst (λ x. (eqb x quote || eqb x backslash) ≡ true) (sym same) e))
  where
    not_true : (b : Bool) → (b ≡ true → ⊥) → b ≡ false
    not_true true h = absurd (h refl)
    not_true false h = refl

pub none_to_end : (xs : List ℕ) (from last : ℕ) → from ≤ last → last ≤ length xs
    → Nowhere (Passes (is_byte2 quote backslash) (slice_range xs from last)) 0 (length (slice_range xs from last)) → ArePlain xs from last
none_to_end xs from last low within none =
    let end : from + (last - from) ≡ last = omega arith in
    let size : length (slice_range xs from last) ≡ last - from = length_range xs from last within in
    subst (ArePlain xs from) end (none_found xs from last (last - from) (omega arith) within (λ m a b. none m a (omega arith)))
