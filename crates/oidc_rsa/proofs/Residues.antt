-- The arithmetic of Montgomery's product, over plain numbers: B is 2 ^ 64, W the weight above the limbs.
use Rattle.std.proofs.Common.{◌≡◌, ℕ, Bool, true, false, ◌+◌, ◌*◌, ◌/◌, ◌^◌, ◌%◌, ◌<◌, ◌≤◌, ◌⊎◌, inl, inr, refl, ap, sym, ◌∙◌, arith}
use Rattle.std.proofs.Math.Nat.{add-mod_right, mod-eq_of_lt, mod-mod, mod-add-mod, add-mul-mod_self_right, zero-mod, zero-mul, mul-mod_right, mul-le-mul_left, mul-le-mul_right, lt_of_mul-lt-mul_left}
use Rattle.std.proofs.lemmas.Nat.{pow-add, mul-pow, mul-mod_first}
use Rattle.std.proofs.lemmas.Bool.Decides.{nat_tests}
use Rattle.std.specs.Int.{from_bool}
use Rattle.std.specs.Ordering.{is_lt, nat_cmp}
use Rattle.oidc_rsa.proofs.Congruence.{same-add, same-mul}

-- ---- one subtraction

-- what is borrowed is the bit above
borrow_is_top : (W t t' n : ℕ) (top borrow : Bool) → t' + n ≡ t + from_bool borrow * W → t' < W → n < W → (top ≡ false → n ≤ t) → t + from_bool top * W < 2 * n → t' + n ≡ t + from_bool top * W
borrow_is_top W t t' n true true e small n_small over twice = e
borrow_is_top W t t' n false false e small n_small over twice = e
borrow_is_top W t t' n true false e small n_small over twice = absurd (omega arith)
borrow_is_top W t t' n false true e small n_small over twice = absurd (omega (arith, over refl))

pub subtracted_once : (W t t' n : ℕ) (top borrow : Bool) → t' + n ≡ t + from_bool borrow * W → t' < W → n < W → (top ≡ false → n ≤ t) → t + from_bool top * W < 2 * n → t' ≡ (t + from_bool top * W) % n
subtracted_once W t t' n top borrow e small n_small over twice =
    let whole = borrow_is_top W t t' n top borrow e small n_small over twice in
    let below : t' < n = omega arith in
    sym (mod-eq_of_lt below) ∙ (sym (add-mod_right t' n) ∙ ap (λ k. k % n) whole)

not_below : (t n : ℕ) → is_lt (nat_cmp t n) ≡ false → n ≤ t
not_below t n h = grind (arith, nat_tests)

pub over_from_test : (t n : ℕ) (top below : Bool) → (top ≡ true) ⊎ ((top ≡ false) × (below ≡ false)) → below ≡ is_lt (nat_cmp t n) → top ≡ false → n ≤ t
over_from_test t n top below (inl e) test f = absurd (cc)
over_from_test t n top below (inr e) test f = not_below t n (sym test ∙ e.1)

-- ---- Newton's method

-- one step squares n * y + 1
pub newton_step : (M n y x : ℕ) → (n * y + 1) % M ≡ x % M → (n * (y * ((n * y % M + 2) % M) % M) + 1) % M ≡ (x * x) % M
newton_step M n y x h =
    let inner = mod-mod (n * y % M + 2) M ∙ mod-add-mod (n * y) M 2 in
    let next = mod-mod (y * ((n * y % M + 2) % M)) M ∙ same-mul M y y ((n * y % M + 2) % M) (n * y + 2) refl inner in
    let all = same-add M (n * (y * ((n * y % M + 2) % M) % M)) (n * (y * (n * y + 2))) 1 1 (same-mul M n n (y * ((n * y % M + 2) % M) % M) (y * (n * y + 2)) refl next) refl in
    let square : n * (y * (n * y + 2)) + 1 ≡ (n * y + 1) * (n * y + 1) = omega arith in
    all ∙ (ap (λ k. k % M) square ∙ same-mul M (n * y + 1) x (n * y + 1) x h h)

-- the powers that are squared
pub square_power : (x i : ℕ) → x ^ (2 ^ i) * x ^ (2 ^ i) ≡ x ^ (2 ^ (i + 1))
square_power x i =
    sym (pow-add x (2 ^ i) (2 ^ i)) ∙ ap (λ (k : ℕ). x ^ k) (omega (arith, pow-add 2 i 1))

-- an even number to the power 64
pub even_power : (n : ℕ) → n % 2 ≡ 1 → (n + 1) ^ 64 % 2 ^ 64 ≡ 0
even_power n odd =
    let half : n + 1 ≡ 2 * (n / 2 + 1) = omega arith in
    ap (λ (k : ℕ). k ^ 64 % 2 ^ 64) half ∙ (ap (λ (k : ℕ). k % 2 ^ 64) (mul-pow 2 (n / 2 + 1) 64) ∙ mul-mod_right (2 ^ 64) ((n / 2 + 1) ^ 64))

-- ---- rows

-- the multiple of n that clears the lowest limb x
cleared : (B n inverse x : ℕ) → (n * inverse + 1) % B ≡ 0 → (n * (x * inverse % B) + x) % B ≡ 0
cleared B n inverse x law =
    let whole : n * (x * inverse) + x ≡ (n * inverse + 1) * x = omega arith in
    same-add B (n * (x * inverse % B)) (n * (x * inverse)) x x (same-mul B n n (x * inverse % B) (x * inverse) refl (mod-mod (x * inverse) B)) refl
    ∙ (ap (λ k. k % B) whole ∙ (sym (mul-mod_first (n * inverse + 1) x B) ∙ (ap (λ k. (k * x) % B) law ∙ (ap (λ k. k % B) (zero-mul x) ∙ zero-mod B))))

pub lowest_is_zero : (B n inverse x low q : ℕ) → (n * inverse + 1) % B ≡ 0 → low < B → low + q * B ≡ n * (x * inverse % B) + x + 0 → low ≡ 0
lowest_is_zero B n inverse x low q law small e =
    let turned : low + q * B ≡ n * (x * inverse % B) + x = omega arith in
    sym (mod-eq_of_lt small) ∙ (sym (add-mul-mod_self_right low q B) ∙ (ap (λ k. k % B) turned ∙ cleared B n inverse x law))

pub rows_step : (B P Q T T' v v' b d n m q : ℕ) → Q ≡ B * P → B * T' ≡ T + b * d + n * m → v' ≡ v + P * d → P * T ≡ v * b + q * n → Q * T' ≡ v' * b + (q + P * m) * n
rows_step B P Q T T' v v' b d n m q weight row read before =
    omega (arith, ap (λ k. P * k) row, ap (λ k. k * T') weight, ap (λ k. k * b) read)

pub rows_bound : (B P Q q m : ℕ) → Q ≡ B * P → q < P → m < B → q + P * m < Q
rows_bound B P Q q m weight small digit = omega (arith, mul-le-mul_left P digit)

-- at the end
pub rows_below : (W T a b q n : ℕ) → W * T ≡ a * b + q * n → a < W → q < W → b < n → T < 2 * n
rows_below W T a b q n e ha hq hb =
    let one : a * b ≤ W * b = omega (arith, mul-le-mul_right b ha) in
    let two : q * n + n ≤ W * n = omega (arith, mul-le-mul_right n hq) in
    let less : T < b + n = lt_of_mul-lt-mul_left W (omega arith) in
    omega arith

pub rows_product : (W T a b q n r : ℕ) → W * T ≡ a * b + q * n → r ≡ T % n → (r * W) % n ≡ (a * b) % n
rows_product W T a b q n r e is =
    let turned : T * W ≡ a * b + q * n = omega arith in
    ap (λ k. (k * W) % n) is ∙ (mul-mod_first T W n ∙ (ap (λ k. k % n) turned ∙ add-mul-mod_self_right (a * b) q n))
