-- A whole number of seconds, rounded down, is that number.
use Rattle.std.proofs.Common.{◌≡◌, ℕ, suc, ◌+◌, ◌*◌, ◌/◌, ℤ, pos, negsuc, ◌*ℤ◌, neg_ℤ, Bool, true, false, cond, Some, None, sym, ap, ◌∙◌, arith}
use Rattle.std.proofs.Math.IntN.{pos-*ℤ-pos, negsuc-*ℤ-pos, negsuc-eq, pos-+ℤ-pos, one}
use Rattle.std.specs.Int.{int_div_euclid}
use Rattle.oidc_readers.specs.Moments.{moment_at, seconds_of}

neg_one_more : (n : ℕ) → neg_ℤ (pos (n + 1)) ≡ negsuc n
unfolding one
neg_one_more n = sym (negsuc-eq n ∙ ap neg_ℤ (pos-+ℤ-pos n 1))

floor_back : (z : ℤ) → int_div_euclid (z *ℤ pos 1_000_000_000) (pos 1_000_000_000) ≡ z
floor_back (pos s) =
    let q : (s * 1_000_000_000) / 1_000_000_000 ≡ s = omega arith in
    ap (λ z. int_div_euclid z (pos 1_000_000_000)) (pos-*ℤ-pos s 1_000_000_000) ∙ ap pos q
floor_back (negsuc s) =
    let n : suc s * 1_000_000_000 ≡ (s * 1_000_000_000 + 999_999_999) + 1 = omega arith in
    let q : (s * 1_000_000_000 + 999_999_999) / 1_000_000_000 ≡ s = omega arith in
    ap (λ z. int_div_euclid z (pos 1_000_000_000)) (negsuc-*ℤ-pos s 1_000_000_000 ∙ ap (λ k. neg_ℤ (pos k)) n ∙ neg_one_more (s * 1_000_000_000 + 999_999_999)) ∙ ap negsuc q

some_is : (b : Bool) (x y : ℤ) → cond b (Some x) None ≡ Some y → x ≡ y
some_is true x y h = cc
some_is false x y h = absurd (cc)

-- A moment at a whole second is the one at its seconds, rounded down.
pub whole_second : (nanosecond second : ℤ) → moment_at second ≡ Some nanosecond → moment_at (seconds_of nanosecond) ≡ Some nanosecond
whole_second nanosecond second is =
    ap (λ n. moment_at (seconds_of n)) (sym (some_is _ (second *ℤ pos 1_000_000_000) nanosecond is)) ∙ ap moment_at (floor_back second) ∙ is
