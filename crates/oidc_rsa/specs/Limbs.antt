-- Numbers as the code holds them: limbs of 64 bits, the lowest first.
use Rattle.std.specs.Prelude.{◌≡◌, ℕ, Bool, ◌+◌, ◌*◌, ◌^◌, ◌%◌, List, [], ◌∷◌, length}
use Rattle.std.specs.Int.{from_bool}

-- the number that limbs write
abbrev pub value : List ℕ → ℕ
value [] = 0
value (limb ∷ limbs) = limb + 2 ^ 64 * value limbs

-- the weight of the bit above so many limbs
abbrev pub weight : ℕ → ℕ
weight count = 2 ^ (64 * count)

-- the number that limbs and a bit above them write
abbrev pub value_with_bit : List ℕ → Bool → ℕ
value_with_bit limbs bit = value limbs + from_bool bit * weight (length limbs)

-- Montgomery's form: r stands for x modulo n where it is x * R
abbrev pub StandsFor : ℕ → ℕ → ℕ → ℕ → Type 0
StandsFor n R r x = r % n ≡ x * R % n
