-- The value of limbs: of the first ones, after a write, and its bound.
use Rattle.std.proofs.Common.{◌≡◌, ℕ, zero, suc, ◌+◌, ◌*◌, ◌^◌, ◌<◌, List, [], ◌∷◌, ◌++◌, length, get_or, take, set, replicate, Fits, w64, refl, ap, subst, ◌∙◌, arith}
use Rattle.std.proofs.lemmas.List.{take_more, take_more_set, take_all, length-take-le}
use Rattle.std.proofs.lemmas.Nat.{pow-add, pow_pos}
use Rattle.oidc_rsa.specs.Limbs.{value}

-- one limb more
pub weight-more : (i : ℕ) → 2 ^ (64 * (i + 1)) ≡ 2 ^ 64 * 2 ^ (64 * i)
weight-more i = ap (λ (k : ℕ). 2 ^ k) (omega arith) ∙ pow-add 2 64 (64 * i)

weight-suc : (i : ℕ) → 2 ^ (64 * suc i) ≡ 2 ^ 64 * 2 ^ (64 * i)
weight-suc i = ap (λ (k : ℕ). 2 ^ k) (omega arith) ∙ pow-add 2 64 (64 * i)

-- limbs one after another
value-append : (xs ys : List ℕ) → value (xs ++ ys) ≡ value xs + 2 ^ (64 * length xs) * value ys
value-append [] ys = omega arith
value-append (x ∷ xs) ys =
    omega (arith, value-append xs ys, ap (λ w. w * value ys) (weight-suc (length xs)))

-- the first limbs and one more
pub value-take : (xs : List ℕ) (i : ℕ) → i < length xs → value (take (i + 1) xs) ≡ value (take i xs) + 2 ^ (64 * i) * get_or xs i 0
value-take xs i h =
    let one = value-append (take i xs) (get_or xs i 0 ∷ []) in
    let len = length-take-le i xs (omega arith) in
    ap value (take_more xs i 0 h) ∙ (one ∙ omega (arith, ap (λ n. 2 ^ (64 * n) * get_or xs i 0) len))

-- the first limbs after the next one is written
pub value-take-set : (xs : List ℕ) (i y : ℕ) → i < length xs → value (take (i + 1) (set xs i y)) ≡ value (take i xs) + 2 ^ (64 * i) * y
value-take-set xs i y h =
    let len = length-take-le i xs (omega arith) in
    ap value (take_more_set xs i y h) ∙ (value-append (take i xs) (y ∷ []) ∙ omega (arith, ap (λ n. 2 ^ (64 * n) * y) len))

-- all limbs after one is written
pub value-set : (xs : List ℕ) (i y : ℕ) → i < length xs → value (set xs i y) + 2 ^ (64 * i) * get_or xs i 0 ≡ value xs + 2 ^ (64 * i) * y
value-set [] i y h = absurd (omega arith)
value-set (x ∷ xs) zero y h = omega arith
value-set (x ∷ xs) (suc i) y h =
    omega (arith, value-set xs i y (omega arith), ap (λ w. w * get_or xs i 0) (weight-suc i), ap (λ w. w * y) (weight-suc i))

-- its bound
pub value-take-lt : (xs : List ℕ) (i : ℕ) → ((k : ℕ) → Fits w64 (get_or xs k 0)) → value (take i xs) < 2 ^ (64 * i)
value-take-lt xs zero h = omega arith
value-take-lt [] (suc i) h = pow_pos (64 * suc i)
value-take-lt (x ∷ xs) (suc i) h =
    omega (arith, value-take-lt xs i (λ k. h (suc k)), (h 0).fits, weight-suc i)

pub value-lt : (xs : List ℕ) → ((k : ℕ) → Fits w64 (get_or xs k 0)) → value xs < 2 ^ (64 * length xs)
value-lt xs h = subst (λ ys. value ys < 2 ^ (64 * length xs)) (take_all (length xs) xs (omega arith)) (value-take-lt xs (length xs) h)

pub value-zeros : (k : ℕ) → value (replicate k 0) ≡ 0
value-zeros zero = refl
value-zeros (suc k) = omega (arith, value-zeros k)
