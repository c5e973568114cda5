-- The counts at the next place.
use Rattle.std.proofs.Common.{◌≡◌, ℕ, zero, suc, ◌+◌, ◌-◌, ◌<◌, ◌≤◌, Bool, true, false, not, cond, eqb, ◌&&◌, List, [], ◌∷◌, ◌++◌, length, take, get_or, count_by, refl, sym, ap, ◌∙◌, arith, add-one}
use Rattle.std.specs.List.{range_with_len, suffix_len}
use Rattle.std.proofs.lemmas.List.Sums.{sum_by_push, suffix_len-take_yes, suffix_len-take_no}
use Rattle.std.proofs.lemmas.Grind.{common_steps}
use Rattle.oidc_members.specs.Places.{quote, backslash, places, is_even, backslashes, is_unescaped_quote, is_outside, opens, closes, opened, closed}

pub range_more : (a n : ℕ) → range_with_len a (n + 1) ≡ range_with_len a n ++ (a + n) ∷ []
range_more a zero = grind (arith, common_steps)
range_more a (suc n) =
    let next : (a + 1) + n ≡ a + suc n = omega arith in
    let rest : range_with_len (a + 1) (suc n) ≡ range_with_len (a + 1) n ++ (a + suc n) ∷ [] = ap (range_with_len (a + 1)) (sym (add-one n)) ∙ range_more (a + 1) n ∙ ap (λ k. range_with_len (a + 1) n ++ k ∷ []) next in
    rw add-one (ap (λ xs. a ∷ xs) rest)

pub places_more : (a i : ℕ) → a ≤ i → places a (i + 1) ≡ places a i ++ i ∷ []
places_more a i le =
    let one_more : (i + 1) - a ≡ (i - a) + 1 = omega arith in
    let last : a + (i - a) ≡ i = omega arith in
    ap (range_with_len a) one_more ∙ range_more a (i - a) ∙ ap (λ k. range_with_len a (i - a) ++ k ∷ []) last

pub count_more : (p : ℕ → Bool) (i : ℕ) → count_by p (places 0 (i + 1)) ≡ count_by p (places 0 i) + cond (p i) 1 0
count_more p i = ap (count_by p) (places_more 0 i (omega arith)) ∙ sum_by_push (λ k. cond (p k) 1 0) (places 0 i) i

pub even_more : (n : ℕ) → is_even (n + 1) ≡ not (is_even n)
even_more n = grind arith

pub outside_more : (xs : List ℕ) (i : ℕ) → is_outside xs (i + 1) ≡ cond (is_unescaped_quote xs i) (not (is_outside xs i)) (is_outside xs i)
unfolding is_outside
outside_more xs i = ap is_even (count_more (is_unescaped_quote xs) i) ∙ even_cond (count_by (is_unescaped_quote xs) (places 0 i)) (is_unescaped_quote xs i)
  where
    even_cond : (n : ℕ) (b : Bool) → is_even (n + cond b 1 0) ≡ cond b (not (is_even n)) (is_even n)
    even_cond n true = even_more n
    even_cond n false = grind arith

-- the same, by the byte at the place
pub outside_behind : (xs : List ℕ) (i : ℕ)
    → is_outside xs (i + 1) ≡ cond (eqb (get_or xs i 0) quote && is_even (backslashes xs i)) (not (is_outside xs i)) (is_outside xs i)
unfolding is_unescaped_quote
outside_behind xs i = outside_more xs i

pub opened_more : (xs : List ℕ) (i : ℕ) → opened xs (i + 1) ≡ opened xs i + cond (opens xs i) 1 0
unfolding opened
opened_more xs i = count_more (opens xs) i

pub closed_more : (xs : List ℕ) (i : ℕ) → closed xs (i + 1) ≡ closed xs i + cond (closes xs i) 1 0
unfolding closed
closed_more xs i = count_more (closes xs) i

pub backslashes_more_yes : (xs : List ℕ) (i : ℕ) → i < length xs → eqb (get_or xs i 0) backslash ≡ true → backslashes xs (i + 1) ≡ 1 + backslashes xs i
unfolding backslashes
backslashes_more_yes xs i lt is = let k : (i + 1) - 1 ≡ i = omega arith in suffix_len-take_yes (λ b. eqb b backslash) xs (i + 1) 0 (omega arith) (omega arith) (rw k is) ∙ ap (λ n. 1 + suffix_len (λ b. eqb b backslash) (take n xs)) k

pub backslashes_more_no : (xs : List ℕ) (i : ℕ) → i < length xs → eqb (get_or xs i 0) backslash ≡ false → backslashes xs (i + 1) ≡ 0
unfolding backslashes
backslashes_more_no xs i lt is = let k : (i + 1) - 1 ≡ i = omega arith in suffix_len-take_no (λ b. eqb b backslash) xs (i + 1) 0 (omega arith) (omega arith) (rw k is)

pub escapes_more : (xs : List ℕ) (i : ℕ) → i < length xs
    → is_even (backslashes xs (i + 1)) ≡ not (eqb (get_or xs i 0) backslash && is_even (backslashes xs i))
escapes_more xs i lt =
    elim (eqb (get_or xs i 0) backslash) as (λ b. eqb (get_or xs i 0) backslash ≡ b → is_even (backslashes xs (i + 1)) ≡ not (b && is_even (backslashes xs i))) [
      | true ↦ λ is. ap is_even (backslashes_more_yes xs i lt is ∙ omega arith) ∙ even_more (backslashes xs i)
      | false ↦ λ is. ap is_even (backslashes_more_no xs i lt is)
    ]
    refl

pub nothing_before : (xs : List ℕ) → (is_outside xs 0 ≡ true) × (backslashes xs 0 ≡ 0) × (opened xs 0 ≡ 0) × (closed xs 0 ≡ 0)
unfolding is_outside backslashes opened closed
nothing_before xs = (refl, refl, refl, refl)
