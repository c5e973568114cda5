-- Powers in Montgomery's form, over plain numbers: what stands for a product, the way in and the way out.
use Rattle.std.proofs.Common.{◌≡◌, ℕ, zero, suc, ◌+◌, ◌-◌, ◌*◌, ◌/◌, ◌^◌, ◌%◌, ◌<◌, ◌≤◌, ◌≢◌, refl, ap, sym, ◌∙◌, arith}
use Rattle.std.proofs.Math.Nat.{add-mul-mod_self_right, mod-eq_of_lt, div-eq_of_lt-le, pow-suc, pow-succ', pow-zero}
use Rattle.std.proofs.lemmas.Nat.{pow-add, shr-shr, mul-mod_second}
use Rattle.std.proofs.lemmas.Grind.{pow_more}
use Rattle.oidc_rsa.specs.Limbs.{StandsFor}
use Rattle.oidc_rsa.proofs.Congruence.{same-mul}

-- ---- a power of 2 cancels, modulo an odd number

cancel_two : (n x y : ℕ) → n % 2 ≡ 1 → (x * 2) % n ≡ (y * 2) % n → x % n ≡ y % n
cancel_two n x y odd e =
    let half = n / 2 + 1 in
    let twice : n + 1 ≡ 2 * half = omega arith in
    let back_x : x * 2 * half ≡ x + x * n = omega (arith, ap (λ k. x * k) twice) in
    let back_y : y * 2 * half ≡ y + y * n = omega (arith, ap (λ k. y * k) twice) in
    sym (ap (λ k. k % n) back_x ∙ add-mul-mod_self_right x x n) ∙ (same-mul n (x * 2) (y * 2) half half e refl ∙ (ap (λ k. k % n) back_y ∙ add-mul-mod_self_right y y n))

cancel : (n j x y : ℕ) → n % 2 ≡ 1 → (x * 2 ^ j) % n ≡ (y * 2 ^ j) % n → x % n ≡ y % n
cancel n zero x y odd e =
    let at_x : x ≡ x * 1 = omega arith in let at_y : y * 1 ≡ y = omega arith in
    ap (λ k. k % n) at_x ∙ (e ∙ ap (λ k. k % n) at_y)
cancel n (suc j) x y odd e =
    let at_x : x * 2 * 2 ^ j ≡ x * 2 ^ suc j = omega (arith, ap (λ w. x * w) (pow-succ' 2 j)) in
    let at_y : y * 2 ^ suc j ≡ y * 2 * 2 ^ j = omega (arith, ap (λ w. y * w) (pow-succ' 2 j)) in
    cancel_two n x y odd (cancel n j (x * 2) (y * 2) odd (ap (λ k. k % n) at_x ∙ (e ∙ ap (λ k. k % n) at_y)))

-- ---- Montgomery's form

paired : (x y W : ℕ) → x * W * (y * W) ≡ x * y * W * W
paired x y W = omega arith

pub stands-mul : (n k a b r x y : ℕ) → n % 2 ≡ 1 → (r * 2 ^ k) % n ≡ (a * b) % n → StandsFor n (2 ^ k) a x → StandsFor n (2 ^ k) b y → StandsFor n (2 ^ k) r (x * y)
stands-mul n k a b r x y odd e of_a of_b =
    cancel n k r (x * y * 2 ^ k) odd (e ∙ (same-mul n a (x * 2 ^ k) b (y * 2 ^ k) of_a of_b ∙ ap (λ t. t % n) (paired x y (2 ^ k))))

grouped : (a W : ℕ) → a * (W * W) ≡ a * W * W
grouped a W = omega arith

-- the way in: a product with R * R
pub into_form : (n k a s r : ℕ) → n % 2 ≡ 1 → s ≡ 2 ^ (k + k) % n → (r * 2 ^ k) % n ≡ (a * s) % n → StandsFor n (2 ^ k) r a
into_form n k a s r odd square e =
    let split = square ∙ ap (λ t. t % n) (pow-add 2 k k) in
    cancel n k r (a * 2 ^ k) odd (e ∙ (ap (λ t. (a * t) % n) split ∙ (mul-mod_second a (2 ^ k * 2 ^ k) n ∙ ap (λ t. t % n) (grouped a (2 ^ k)))))

turned : (x y W : ℕ) → x * W * y ≡ x * y * W
turned x y W = omega arith

-- the way out: a product with a number that isn't in the form
pub out_of_form : (n k a b r x : ℕ) → n % 2 ≡ 1 → (r * 2 ^ k) % n ≡ (a * b) % n → StandsFor n (2 ^ k) a x → r < n → r ≡ (x * b) % n
out_of_form n k a b r x odd e stands below =
    sym (mod-eq_of_lt below) ∙ cancel n k r (x * b) odd (e ∙ (same-mul n a (x * 2 ^ k) b b stands refl ∙ ap (λ t. t % n) (turned x b (2 ^ k))))

-- ---- the bits of the exponent, from the highest

-- above its highest bit an exponent is 1
pub highest_bit : (x e top : ℕ) → 2 ^ top ≤ e → e < 2 * 2 ^ top → x ^ (e / 2 ^ top) ≡ x
highest_bit x e top least below =
    let once : e / 2 ^ top ≡ 1 = div-eq_of_lt-le {k = 1} (2 ^ top) {m = e} (omega arith) (omega arith) in
    let itself : x ^ 1 ≡ x = omega (arith, pow-suc x 0 ∙ ap (λ k. k * x) (pow-zero x)) in
    ap (λ (k : ℕ). x ^ k) once ∙ itself

-- one bit more doubles the exponent so far
next_bit : (e i : ℕ) → 0 < i → e / 2 ^ (i - 1) ≡ e / 2 ^ i + e / 2 ^ i + e / 2 ^ (i - 1) % 2
next_bit e i h =
    let before : i - 1 + 1 ≡ i = omega arith in
    let halved = shr-shr e (i - 1) 1 ∙ ap (λ (j : ℕ). e / 2 ^ j) before in
    omega arith

pub bit_clear : (x e i : ℕ) → 0 < i → e / 2 ^ (i - 1) % 2 ≢ 1 → x ^ (e / 2 ^ i) * x ^ (e / 2 ^ i) ≡ x ^ (e / 2 ^ (i - 1))
bit_clear x e i h clear =
    let next = next_bit e i h in
    let twice : e / 2 ^ i + e / 2 ^ i ≡ e / 2 ^ (i - 1) = omega arith in
    sym (pow-add x (e / 2 ^ i) (e / 2 ^ i)) ∙ ap (λ (k : ℕ). x ^ k) twice

pub bit_set : (x e i : ℕ) → 0 < i → e / 2 ^ (i - 1) % 2 ≡ 1 → x ^ (e / 2 ^ i) * x ^ (e / 2 ^ i) * x ≡ x ^ (e / 2 ^ (i - 1))
bit_set x e i h set =
    let next = next_bit e i h in
    let more : e / 2 ^ i + e / 2 ^ i + 1 ≡ e / 2 ^ (i - 1) = omega arith in
    ap (λ p. p * x) (sym (pow-add x (e / 2 ^ i) (e / 2 ^ i))) ∙ (sym (pow_more x (e / 2 ^ i + e / 2 ^ i)) ∙ ap (λ (k : ℕ). x ^ k) more)

-- the last factor
pub one_more : (x e : ℕ) → 0 < e → x ^ (e - 1) * x ≡ x ^ e
one_more x e h =
    let whole : e - 1 + 1 ≡ e = omega arith in
    sym (pow_more x (e - 1)) ∙ ap (λ (k : ℕ). x ^ k) whole

-- ---- R * R

pub doubled_again : (n i t : ℕ) → t ≡ 2 ^ i % n → 2 * t % n ≡ 2 ^ (i + 1) % n
doubled_again n i t e =
    let next : 2 * 2 ^ i ≡ 2 ^ (i + 1) = omega (arith, pow-add 2 i 1) in
    ap (λ k. 2 * k % n) e ∙ (mul-mod_second 2 (2 ^ i) n ∙ ap (λ k. k % n) next)
