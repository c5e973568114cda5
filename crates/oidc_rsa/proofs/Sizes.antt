-- The sizes of moduli and exponents: what their octets and their first and last ones say of the number.
use Rattle.std.proofs.Common.{◌≡◌, ℕ, suc, ◌+◌, ◌-◌, ◌*◌, ◌%◌, ◌^◌, ◌<◌, ◌≤◌, ◌≢◌, ◌⊎◌, inl, inr, List, [], ◌∷◌, length, get_or, take, drop, Fits, w8, ap, subst, sym, ◌∙◌, arith}
use Rattle.std.proofs.Math.Nat.{mul-le-mul_right}
use Rattle.std.proofs.Math.Pow.{pow_mono}
use Rattle.std.proofs.lemmas.List.{take_all, take-append-drop}
use Rattle.std.proofs.lemmas.Nat.{pow-add, leading_top}
use Rattle.std.proofs.lemmas.Int.Digits.{number_more, number_after_append, number_after_ge}
use Rattle.std.specs.Int.Digits.{number_from_digits}
use lib.Count.{count_leading_zeros}
use Rattle.oidc_rsa.specs.Octets.{os2ip}
use Rattle.oidc_rsa.specs.Key.{HasBits, IsModulus, IsExponent, octets_for}
use Rattle.oidc_rsa.proofs.Digits.{number-lt, first-le, first-lt}

-- ---- bits

-- the bits of the first octet and eight for each further one
bits_from_first : (b j : ℕ) (bs : List ℕ) → ((k : ℕ) → Fits w8 (get_or bs k 0)) → 2 ^ j ≤ b → b < 2 ^ suc j → HasBits (suc j + 8 * length bs) (os2ip (b ∷ bs))
bits_from_first b j bs h least below =
    let low : 2 ^ (suc j + 8 * length bs - 1) ≡ 2 ^ j * 2 ^ (8 * length bs) = ap (λ (e : ℕ). 2 ^ e) (omega arith) ∙ pow-add 2 j (8 * length bs) in
    let high = pow-add 2 (suc j) (8 * length bs) in (
      omega (arith, mul-le-mul_right (2 ^ (8 * length bs)) least, first-le b bs),
      omega (arith, mul-le-mul_right (2 ^ (8 * length bs)) below, first-lt b bs h),
    )

-- the bits of octets by the zeros at their front
pub bits_of_octets : (octets : List ℕ) (bits : ℕ) → ((k : ℕ) → Fits w8 (get_or octets k 0)) → 0 < get_or octets 0 0 → bits + count_leading_zeros 8 (get_or octets 0 0) ≡ 8 * length octets → HasBits bits (os2ip octets) × (length octets ≡ octets_for bits)
bits_of_octets [] bits h some e = absurd (omega arith)
bits_of_octets (b ∷ bs) bits h some e =
    let top = leading_top 8 b some (h 0).fits in
    let is : suc top.0 + 8 * length bs ≡ bits = omega (arith, top.1) in
    (subst (λ k. HasBits k (os2ip (b ∷ bs))) is (bits_from_first b top.0 bs (λ k. h (suc k)) top.2 top.3), omega (arith, top.1))

too_small : (n low bits : ℕ) → low < 2048 → n < 2 ^ low → 2048 ≤ bits → 2 ^ (bits - 1) ≤ n → ⊥
too_small n low bits few below many least =
    let order : 2 ^ low ≤ 2 ^ (bits - 1) = pow_mono {i = low} {j = bits - 1} (omega arith) in
    absurd (omega arith)

too_great : (n high bits : ℕ) → 8192 ≤ high → 2 ^ high ≤ n → bits ≤ 8192 → n < 2 ^ bits → ⊥
too_great n high bits many least few below =
    let order : 2 ^ bits ≤ 2 ^ high = pow_mono {i = bits} {j = high} (omega arith) in
    absurd (omega arith)

pub above_one : (n bits : ℕ) → 2048 ≤ bits → 2 ^ (bits - 1) ≤ n → 1 < n
above_one n bits many least =
    let order : 2 ^ 1 ≤ 2 ^ (bits - 1) = pow_mono {i = 1} {j = bits - 1} (omega arith) in
    omega arith

-- ---- octets that no modulus has

short_modulus : (octets : List ℕ) → ((k : ℕ) → Fits w8 (get_or octets k 0)) → length octets < 256 → ¬ IsModulus octets
short_modulus octets h short m =
    too_small (os2ip octets) (8 * length octets) m.size.0 (omega arith) (number-lt octets h) m.size.1 m.size.3.0

long_by_one : (b : ℕ) (bs : List ℕ) → 0 < b → 2 ^ (8 * length bs) ≤ os2ip (b ∷ bs)
long_by_one b bs some = omega (arith, first-le b bs, mul-le-mul_right (2 ^ (8 * length bs)) some)

long_modulus : (octets : List ℕ) → 1024 < length octets → ¬ IsModulus octets
long_modulus [] long m = absurd (omega arith)
long_modulus (b ∷ bs) long m =
    too_great (os2ip (b ∷ bs)) (8 * length bs) m.size.0 (omega arith) (long_by_one b bs m.no_leading_zero) m.size.2 m.size.3.1

pub zero_at_front : (octets : List ℕ) → get_or octets 0 0 ≡ 0 → ¬ IsModulus octets
zero_at_front octets none m = absurd (omega (arith, m.no_leading_zero))

-- the last octet decides whether a number is odd
odd_by_last : (octets : List ℕ) → 0 < length octets → os2ip octets % 2 ≡ get_or octets (length octets - 1) 0 % 2
odd_by_last octets some =
    let whole : take (length octets - 1 + 1) octets ≡ octets = take_all (length octets - 1 + 1) octets (omega arith) in
    let split = sym (ap (number_from_digits 256) whole) ∙ number_more 256 octets (length octets - 1) (omega arith) in
    omega (arith, split)

pub even_modulus : (octets : List ℕ) → 0 < length octets → get_or octets (length octets - 1) 0 % 2 ≡ 0 → ¬ IsModulus octets
even_modulus octets some even m = absurd (omega (arith, odd_by_last octets some, m.odd))

pub few_bits : (octets : List ℕ) (bits : ℕ) → HasBits bits (os2ip octets) → bits < 2048 → ¬ IsModulus octets
few_bits octets bits is few m = too_small (os2ip octets) bits m.size.0 few is.1 m.size.1 m.size.3.0

-- ---- what is refused and what is allowed

pub size_refused : (octets : List ℕ) → ((k : ℕ) → Fits w8 (get_or octets k 0)) → (length octets < 256) ⊎ ((256 ≤ length octets) × (1024 < length octets)) → ¬ IsModulus octets
size_refused octets h (inl short) = short_modulus octets h short
size_refused octets h (inr long) = long_modulus octets long.1

pub modulus_allowed : (octets : List ℕ) (bits : ℕ) → ((k : ℕ) → Fits w8 (get_or octets k 0)) → 256 ≤ length octets → length octets ≤ 1024 → get_or octets 0 0 ≢ 0 → get_or octets (length octets - 1) 0 % 2 ≢ 0 → bits + count_leading_zeros 8 (get_or octets 0 0) ≡ 8 * length octets → 2048 ≤ bits → IsModulus octets
modulus_allowed octets bits h many few front odd e least =
    let some : 0 < get_or octets 0 0 = omega arith in
    let of = bits_of_octets octets bits h some e in
    let most : bits ≤ 8192 = omega arith in
    let parity : os2ip octets % 2 ≡ 1 = omega (arith, odd_by_last octets (omega arith)) in
    record {
      no_leading_zero = some;
      size = (bits, least, most, of.0);
      odd = parity;
    }

-- ---- exponents

-- the first octets write no greater number
number-take-le : (octets : List ℕ) (i : ℕ) → os2ip (take i octets) ≤ os2ip octets
number-take-le octets i =
    let split = sym (ap (number_from_digits 256) (take-append-drop i octets)) ∙ number_after_append 256 0 (take i octets) (drop i octets) in
    omega (arith, split, number_after_ge 256 (os2ip (take i octets)) (drop i octets) (omega arith))

pub great_exponent : (octets : List ℕ) (i : ℕ) → 2 ^ 32 < os2ip (take i octets) → ¬ IsExponent octets
great_exponent octets i above e = absurd (omega (arith, number-take-le octets i, e.at_most))
