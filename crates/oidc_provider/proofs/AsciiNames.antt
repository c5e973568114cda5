-- Names and words of the protocol are ASCII, and so UTF-8.
use Rattle.std.proofs.Common.{◌≡◌, ℕ, ◌<◌, zero, suc, List, [], ◌∷◌, true, arith, get_or}
use Rattle.std.specs.Prelude.{nat_lt, IsUtf8}
use Rattle.std.specs.List.{list_all}
use Rattle.std.proofs.lemmas.Bool.{and_parts, ltb-true}
use Rattle.std.proofs.lemmas.Str.{IsUtf8-from_ascii}

low_at : (bytes : List ℕ) → list_all (λ b. nat_lt b 128) bytes ≡ true → (i : ℕ) → get_or bytes i 0 < 128
low_at [] low i = omega arith
low_at (b ∷ bytes) low zero = ltb-true b 128 (and_parts (nat_lt b 128) (list_all (λ b. nat_lt b 128) bytes) low).0
low_at (b ∷ bytes) low (suc i) = low_at bytes (and_parts (nat_lt b 128) (list_all (λ b. nat_lt b 128) bytes) low).1 i

pub ascii : (bytes : List ℕ) → list_all (λ b. nat_lt b 128) bytes ≡ true → IsUtf8 bytes
ascii bytes low = IsUtf8-from_ascii bytes (low_at bytes low)
