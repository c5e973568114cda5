-- One row of Montgomery's product, over lists of limbs: the first limb, a further one, and the last.
use Rattle.std.proofs.Common.{◌≡◌, ℕ, Bool, ◌+◌, ◌-◌, ◌*◌, ◌^◌, ◌<◌, List, length, get_or, set, take, drop, ap, sym, ◌∙◌, arith}
use Rattle.std.proofs.Math.ListN.{length-set}
use Rattle.std.proofs.lemmas.List.{take_all, get_or-drop, drop-set-lt}
use Rattle.std.proofs.lemmas.Grind.{drop_more_same}
use Rattle.std.specs.Int.{from_bool}
use Rattle.oidc_rsa.specs.Limbs.{value, value_with_bit}
use Rattle.oidc_rsa.proofs.Steps.{row_first, row_step, row_last}
use Rattle.oidc_rsa.proofs.Values.{weight-more, value-take, value-take-set}

-- what the rows so far say, where i limbs of both products are added
abbrev pub AddedSoFar : List ℕ → List ℕ → List ℕ → List ℕ → ℕ → ℕ → ℕ → ℕ → ℕ → Type 0
AddedSoFar s sum b n i d m p q =
    2 ^ 64 * value (take (i - 1) sum) + 2 ^ (64 * i) * (p + q) ≡ value (take i s) + value (take i b) * d + value (take i n) * m

pub rows_first : (s b n : List ℕ) (d m low zero_limb p q : ℕ) → 0 < length s → length s ≡ length b → length s ≡ length n → low + p * 2 ^ 64 ≡ get_or b 0 0 * d + get_or s 0 0 + 0 → zero_limb + q * 2 ^ 64 ≡ get_or n 0 0 * m + low + 0 → zero_limb ≡ 0 → AddedSoFar s s b n 1 d m p q
rows_first s b n d m low zero_limb p q some as_b as_n product multiple none =
    row_first (2 ^ 64) (get_or b 0 0) (get_or n 0 0) d m (get_or s 0 0) low zero_limb p q (value (take 1 s)) (value (take 1 b)) (value (take 1 n))
    product multiple none (value-take s 0 (omega arith)) (value-take b 0 (omega arith)) (value-take n 0 (omega arith))

same_item : (xs ys : List ℕ) (i : ℕ) → drop i xs ≡ drop i ys → get_or xs i 0 ≡ get_or ys i 0
same_item xs ys i e =
    let place : i + 0 ≡ i = omega arith in
    ap (λ k. get_or xs k 0) (sym place)
    ∙ (sym (get_or-drop i xs 0 0) ∙ (ap (λ zs. get_or zs 0 0) e ∙ (get_or-drop i ys 0 0 ∙ ap (λ k. get_or ys k 0) place)))

pub rest_more : (s sum : List ℕ) (i limb : ℕ) → 0 < i → drop i sum ≡ drop i s → drop (i + 1) (set sum (i - 1) limb) ≡ drop (i + 1) s
rest_more s sum i limb some rest = drop-set-lt (i + 1) sum (i - 1) limb (omega arith) ∙ drop_more_same sum s i rest

pub rows_more : (s sum b n : List ℕ) (i d m low limb p q p' q' : ℕ) → 0 < i → i < length s → length sum ≡ length s → length s ≡ length b → length s ≡ length n → drop i sum ≡ drop i s → low + p' * 2 ^ 64 ≡ get_or b i 0 * d + get_or sum i 0 + p → limb + q' * 2 ^ 64 ≡ get_or n i 0 * m + low + q → AddedSoFar s sum b n i d m p q → AddedSoFar s (set sum (i - 1) limb) b n (i + 1) d m p' q'
rows_more s sum b n i d m low limb p q p' q' some within as_sum as_b as_n rest product multiple before =
    let place : i - 1 + 1 ≡ i = omega arith in
    let next : i + 1 - 1 ≡ i - 1 + 1 = omega arith in
    let lower : 2 ^ (64 * i) ≡ 2 ^ 64 * 2 ^ (64 * (i - 1)) = ap (λ (k : ℕ). 2 ^ (64 * k)) (sym place) ∙ weight-more (i - 1) in
    let written : value (take (i + 1 - 1) (set sum (i - 1) limb)) ≡ value (take (i - 1) sum) + 2 ^ (64 * (i - 1)) * limb = ap (λ k. value (take k (set sum (i - 1) limb))) next ∙ value-take-set sum (i - 1) limb (omega arith) in
    let of_sum : value (take (i + 1) s) ≡ value (take i s) + 2 ^ (64 * i) * get_or sum i 0 = value-take s i within ∙ ap (λ x. value (take i s) + 2 ^ (64 * i) * x) (sym (same_item sum s i rest)) in
    row_step (2 ^ 64) (2 ^ (64 * (i - 1))) (2 ^ (64 * i)) (2 ^ (64 * (i + 1)))
    (value (take (i - 1) sum)) (value (take (i + 1 - 1) (set sum (i - 1) limb))) (value (take i s)) (value (take (i + 1) s))
    (value (take i b)) (value (take (i + 1) b)) (value (take i n)) (value (take (i + 1) n)) d m (get_or sum i 0) (get_or b i 0) (get_or n i 0) low limb p q p' q'
    lower (weight-more i) product multiple written of_sum (value-take b i (omega arith)) (value-take n i (omega arith)) before

pub rows_last : (s sum b n : List ℕ) (i d m p q last : ℕ) (top carry : Bool) → 0 < i → i ≡ length s → length sum ≡ length s → length s ≡ length b → length s ≡ length n → last + from_bool carry * 2 ^ 64 ≡ p + q + from_bool top → AddedSoFar s sum b n i d m p q → 2 ^ 64 * value_with_bit (set sum (length s - 1) last) carry ≡ value_with_bit s top + value b * d + value n * m
rows_last s sum b n i d m p q last top carry some end as_sum as_b as_n limb before =
    let index : length s - 1 ≡ i - 1 = omega arith in
    let place : i - 1 + 1 ≡ i = omega arith in
    let new_len : length (set sum (i - 1) last) ≡ i = omega (arith, length-set sum (i - 1) last) in
    let whole : take i (set sum (i - 1) last) ≡ set sum (i - 1) last = take_all i (set sum (i - 1) last) (omega arith) in
    let written : value (set sum (i - 1) last) ≡ value (take (i - 1) sum) + 2 ^ (64 * (i - 1)) * last = sym (ap value whole) ∙ (ap (λ k. value (take k (set sum (i - 1) last))) (sym place) ∙ value-take-set sum (i - 1) last (omega arith)) in
    let lower : 2 ^ (64 * i) ≡ 2 ^ 64 * 2 ^ (64 * (i - 1)) = ap (λ (k : ℕ). 2 ^ (64 * k)) (sym place) ∙ weight-more (i - 1) in
    let all_s : take i s ≡ s = take_all i s (omega arith) in
    let all_b : take i b ≡ b = take_all i b (omega arith) in
    let all_n : take i n ≡ n = take_all i n (omega arith) in
    let sum_is = row_last (2 ^ 64) (2 ^ (64 * (i - 1))) (2 ^ (64 * i)) (value (take (i - 1) sum)) (value (take i s)) (value (take i b)) (value (take i n)) d m p q last (from_bool top) (from_bool carry) (value (set sum (i - 1) last)) lower limb written before in
    let at_end : length s ≡ i = sym end in
    rw (index, new_len, at_end) (rw (all_s, all_b, all_n) at sum_is)
