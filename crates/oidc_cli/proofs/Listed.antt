-- Calls that are listed by their numbers.
use Rattle.std.proofs.Common.{◌≡◌, ℕ, suc, ◌<◌, ◌==◌, false, List, [], ◌∷◌, get_or, refl, arith}
use Rattle.std.proofs.lemmas.Bool.{ne_eqb}
use Rattle.std.specs.List.{list_any}

-- a number that is above each listed one is not listed
pub above_all : (numbers : List ℕ) (n : ℕ) → ((k : ℕ) → get_or numbers k 0 < n) → list_any (λ number. number == n) numbers ≡ false
above_all [] n small = refl
above_all (x ∷ xs) n small = rw (ne_eqb x n (let first : x < n = small 0 in omega arith)) (above_all xs n (λ k. small (suc k)))
