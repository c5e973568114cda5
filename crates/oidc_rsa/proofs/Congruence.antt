-- Sums and products of numbers that are the same modulo m.
use Rattle.std.proofs.Common.{◌≡◌, ℕ, ◌+◌, ◌*◌, ◌%◌, ap, sym, ◌∙◌}
use Rattle.std.proofs.Math.Nat.{add-mod}
use Rattle.std.proofs.lemmas.Nat.{mul-mod}

pub same-add : (m x x' y y' : ℕ) → x % m ≡ x' % m → y % m ≡ y' % m → (x + y) % m ≡ (x' + y') % m
same-add m x x' y y' h k =
    add-mod x y m ∙ (ap (λ r. (r + y % m) % m) h ∙ (ap (λ r. (x' % m + r) % m) k ∙ sym (add-mod x' y' m)))

pub same-mul : (m x x' y y' : ℕ) → x % m ≡ x' % m → y % m ≡ y' % m → (x * y) % m ≡ (x' * y') % m
same-mul m x x' y y' h k =
    mul-mod x y m ∙ (ap (λ r. (r * (y % m)) % m) h ∙ (ap (λ r. (x' % m * r) % m) k ∙ sym (mul-mod x' y' m)))
