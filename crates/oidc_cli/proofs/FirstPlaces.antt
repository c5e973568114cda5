-- The place of the first byte that passes a test.
use Rattle.std.proofs.Common.{◌≡◌, ℕ, Bool, true, false, Option, None, Some, List, length, refl, arith}
use Rattle.std.proofs.lemmas.Bool.Decides.{nat_tests}
use Rattle.std.specs.List.{position}
use Rattle.std.proofs.lemmas.List.Sums.{position_or_len_is}
use Rattle.memchr.specs.Find.{IsFirstByte}

is_false : (b : Bool) → (b ≡ true → ⊥) → b ≡ false
is_false true h = absurd (h refl)
is_false false h = refl

pub first_place : (test : ℕ → Bool) (bytes : List ℕ) (r : Option ℕ) → IsFirstByte test bytes r → r ≡ position test bytes
first_place test bytes None none =
    let at = position_or_len_is test bytes (length bytes) 0 (omega arith) (λ k less. is_false _ (none k (omega arith) less)) (λ less. absurd (omega arith)) in
    rw at (grind (arith, nat_tests))
first_place test bytes (Some i) found =
    let high = found.0.high in
    let at = position_or_len_is test bytes i 0 (omega (arith, high)) (λ k less. is_false _ (found.0.before k (omega arith) less)) (λ _. found.1) in
    rw at (grind (arith, nat_tests, high))
