-- One step of each loop over limbs, over plain numbers: B is 2 ^ 64, P the weight of the limb and Q that of the next one.
use Rattle.std.proofs.Common.{◌≡◌, ℕ, ◌+◌, ◌*◌, ◌<◌, Ordering, Less, Equal, Greater, refl, ap, arith}
use Rattle.std.proofs.Math.Nat.{mul-le-mul_left}
use Rattle.std.proofs.lemmas.Cmp.{ranked, by_ranked}
use Rattle.std.specs.Cmp.{nat_cmp_is}
use Rattle.std.specs.Ordering.{MatchOrdering, nat_cmp, ordering_then}

pub subtract_step : (B P Q v v' u u' w a b r s t : ℕ) → Q ≡ B * P → v' + P * a ≡ v + P * r → u' ≡ u + P * b → r + b + s ≡ a + t * B → v + u ≡ w + s * P → v' + u' ≡ w + t * Q
subtract_step B P Q v v' u u' w a b r s t weight written read limb before =
    omega (arith, ap (λ n. P * n) limb, ap (λ n. t * n) weight)

-- a common part does not change the order
same_order : (c u v : ℕ) (r : Ordering) → MatchOrdering r (u < v) (u ≡ v) (v < u) → MatchOrdering r (u + c < v + c) (u + c ≡ v + c) (v + c < u + c)
same_order c u v Less h = omega (arith, h)
same_order c u v Equal h = omega (arith, h)
same_order c u v Greater h = omega (arith, h)

-- the higher limb decides, and the lower ones where it is the same
pub compare_step : (P u v a b : ℕ) → u < P → v < P → ordering_then (nat_cmp a b) (nat_cmp u v) ≡ nat_cmp (u + P * a) (v + P * b)
compare_step P u v a b hu hv =
    by_ranked (a < b) (a ≡ b) (b < a) (nat_cmp a b) (ranked a b (nat_cmp a b) refl)
    (λ e p. rw e (nat_cmp_is (u + P * a) (v + P * b) Less (omega (arith, mul-le-mul_left P p))))
    (λ e p. rw (e, p) (nat_cmp_is (u + P * b) (v + P * b) (nat_cmp u v) (same_order (P * b) u v (nat_cmp u v) (ranked u v (nat_cmp u v) refl))))
    (λ e p. rw e (nat_cmp_is (u + P * a) (v + P * b) Greater (omega (arith, mul-le-mul_left P p))))

pub double_step : (B P Q v v' x s c c' D D' R : ℕ) → Q ≡ B * P → v' + P * x ≡ v + P * s → D ≡ x + B * D' → s + c' * B ≡ x + x + c → v + P * (c + D) ≡ R → v' + Q * (c' + D') ≡ R
double_step B P Q v v' x s c c' D D' R weight written read limb before =
    omega (arith, ap (λ n. P * n) limb, ap (λ w. w * (c' + D')) weight, ap (λ d. P * d) read)

-- the first limb of a row, where the multiple m of n makes the lowest limb zero
pub row_first : (B b n d m s low zero_limb p q v u w : ℕ) → low + p * B ≡ b * d + s + 0 → zero_limb + q * B ≡ n * m + low + 0 → zero_limb ≡ 0 → v ≡ 0 + 1 * s → u ≡ 0 + 1 * b → w ≡ 0 + 1 * n → B * 0 + B * (p + q) ≡ v + u * d + w * m
row_first B b n d m s low zero_limb p q v u w product multiple none of_sum of_b of_n =
    omega (arith, ap (λ k. k * d) of_b, ap (λ k. k * m) of_n)

-- a further limb: both products are added at P, and the sum is written one limb lower, at O
pub row_step : (B O P Q v v' s s' b b' n n' d m x y z low limb p q p' q' : ℕ) → P ≡ B * O → Q ≡ B * P → low + p' * B ≡ y * d + x + p → limb + q' * B ≡ z * m + low + q → v' ≡ v + O * limb → s' ≡ s + P * x → b' ≡ b + P * y → n' ≡ n + P * z → B * v + P * (p + q) ≡ s + b * d + n * m → B * v' + Q * (p' + q') ≡ s' + b' * d + n' * m
row_step B O P Q v v' s s' b b' n n' d m x y z low limb p q p' q' at_p at_q product multiple written of_sum of_b of_n before =
    omega (arith, ap (λ k. P * k) product, ap (λ k. P * k) multiple, ap (λ k. B * k) written, ap (λ k. k * limb) at_p, ap (λ k. k * (p' + q')) at_q, ap (λ k. k * d) of_b, ap (λ k. k * m) of_n)

-- the last limb of a row, and the bit above it
pub row_last : (B O W v s b n d m p q last top carry whole : ℕ) → W ≡ B * O → last + carry * B ≡ p + q + top → whole ≡ v + O * last → B * v + W * (p + q) ≡ s + b * d + n * m → B * (whole + carry * W) ≡ s + top * W + b * d + n * m
row_last B O W v s b n d m p q last top carry whole weight limb written before =
    omega (arith, ap (λ k. W * k) limb, ap (λ k. B * k) written, ap (λ k. k * last) weight)
