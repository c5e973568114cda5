-- Octets, the highest first, and limbs: a part of the octets and its weight, one octet of a number.
use Rattle.std.proofs.Common.{◌≡◌, ℕ, zero, suc, ◌+◌, ◌-◌, ◌*◌, ◌/◌, ◌^◌, ◌%◌, ◌<◌, ◌≤◌, ◌≢◌, List, [], ◌∷◌, ◌++◌, length, get_or, take, drop, set, ◌⊎◌, inl, inr, Fits, w8, w64, eqb, ltb, refl, ap, sym, ◌∙◌, arith}
use Rattle.std.proofs.Math.Nat.{add-mul-div_left, add-mul-mod_self_left, mod-eq_of_lt, mul-le-mul_left, mul-le-mul_right, div-one, pow-succ'}
use Rattle.std.proofs.lemmas.Nat.{pow-add, pow_pos, shr-shr, mod-pow-add, and_mask}
use Rattle.std.proofs.lemmas.Int.Digits.{number_after_append}
use Rattle.std.proofs.Math.Pow.{pow_mono}
use Rattle.std.proofs.lemmas.Bool.{cases_lt, ne_eqb, lt-ltb, le-ltb}
use Rattle.std.proofs.lemmas.List.{take_all, length-drop, drop-set}
use Rattle.std.proofs.lemmas.List.Folds.{drop_split}
use Rattle.std.specs.Int.{byte_at, bytes_high_first}
use Rattle.std.specs.Int.RustNames.{bit_and}
use Rattle.std.specs.List.{slice_range}
use Rattle.std.specs.Int.Digits.{number_from_digits, number_from_digits_after}
use Rattle.oidc_rsa.specs.Limbs.{value}

octet_weight : (i : ℕ) → 2 ^ (8 * suc i) ≡ 256 * 2 ^ (8 * i)
octet_weight i = ap (λ (k : ℕ). 2 ^ k) (omega arith) ∙ pow-add 2 8 (8 * i)

-- ---- the number that octets write

-- what stands before some octets has their weight
number_after : (n : ℕ) (bs : List ℕ) → number_from_digits_after 256 n bs ≡ n * 2 ^ (8 * length bs) + number_from_digits 256 bs
number_after n [] = omega arith
number_after n (b ∷ bs) =
    omega (arith, number_after (n * 256 + b) bs, number_after (0 * 256 + b) bs, ap (λ w. n * w) (octet_weight (length bs)))

number-append : (bs cs : List ℕ) → number_from_digits 256 (bs ++ cs) ≡ number_from_digits 256 bs * 2 ^ (8 * length cs) + number_from_digits 256 cs
number-append bs cs = number_after_append 256 0 bs cs ∙ number_after (number_from_digits 256 bs) cs

number-take-lt : (bs : List ℕ) (i n : ℕ) → ((k : ℕ) → Fits w8 (get_or bs k 0)) → number_from_digits_after 256 n (take i bs) < (n + 1) * 2 ^ (8 * i)
number-take-lt bs zero n h = omega arith
number-take-lt [] (suc i) n h = omega (arith, mul-le-mul_left n (pow_pos (8 * suc i)), pow_pos (8 * suc i))
number-take-lt (b ∷ bs) (suc i) n h =
    let digit : n * 256 + b + 1 ≤ (n + 1) * 256 = omega (arith, (h 0).fits) in
    omega (arith, number-take-lt bs i (n * 256 + b) (λ k. h (suc k)), mul-le-mul_right (2 ^ (8 * i)) digit, ap (λ w. (n + 1) * w) (octet_weight i))

-- at most seven octets leave room for one more
pub limb-lt : (bs : List ℕ) (i limb byte : ℕ) → ((k : ℕ) → Fits w8 (get_or bs k 0)) → i < 8 → byte < 256 → limb ≡ number_from_digits 256 (take i bs) → limb * 256 + byte < 2 ^ 64
limb-lt bs i limb byte h few small is =
    let most : 2 ^ (8 * i) ≤ 2 ^ 56 = pow_mono {i = 8 * i} {j = 56} (omega arith) in
    omega (arith, number-take-lt bs i 0 h)

-- its bounds, where the first octet is known
pub number-lt : (bs : List ℕ) → ((k : ℕ) → Fits w8 (get_or bs k 0)) → number_from_digits 256 bs < 2 ^ (8 * length bs)
number-lt bs h = omega (arith, number-take-lt bs (length bs) 0 h, ap (number_from_digits 256) (take_all (length bs) bs (omega arith)))

-- ---- reading: eight octets are one limb more
read_full : (bs : List ℕ) (i end start limb : ℕ) → 8 * i ≤ length bs → end ≡ length bs - 8 * i → start ≤ end → limb ≡ number_from_digits 256 (slice_range bs start end) → number_from_digits 256 (drop start bs) ≡ number_from_digits 256 (drop end bs) + 2 ^ (64 * i) * limb
read_full bs i end start limb long at_end ordered is =
    let len : 8 * length (drop end bs) ≡ 64 * i = simp length-drop (omega arith) in
    let split = ap (number_from_digits 256) (drop_split bs start end ordered) ∙ number-append (slice_range bs start end) (drop end bs) in
    omega (arith, split, ap (λ (k : ℕ). number_from_digits 256 (slice_range bs start end) * 2 ^ k) len, ap (λ k. 2 ^ (64 * i) * k) is)

pub read_step : (bs : List ℕ) (i end start limb : ℕ) → end ≡ length bs - 8 * i → start ≡ end - 8 → limb ≡ number_from_digits 256 (slice_range bs start end) → number_from_digits 256 (drop start bs) ≡ number_from_digits 256 (drop end bs) + 2 ^ (64 * i) * limb
read_step bs i end start limb at_end at_start is = by_length (cases_lt (length bs) (8 * i))
  where
    by_length : (length bs < 8 * i) ⊎ (8 * i ≤ length bs) → number_from_digits 256 (drop start bs) ≡ number_from_digits 256 (drop end bs) + 2 ^ (64 * i) * limb
    by_length (inl short) =
        let no_end : end ≡ 0 = omega arith in let no_start : start ≡ 0 = omega arith in let same : start ≡ end = omega arith in
        let empty : limb ≡ 0 = is ∙ (ap (λ s. number_from_digits 256 (slice_range bs s end)) no_start ∙ ap (λ e. number_from_digits 256 (slice_range bs 0 e)) no_end) in
        omega (arith, ap (λ k. number_from_digits 256 (drop k bs)) same, ap (λ k. 2 ^ (64 * i) * k) empty)
    by_length (inr long) = read_full bs i end start limb long at_end (omega arith) is

-- ---- writing: one octet of a number

octet_power : (k : ℕ) → 256 ^ k ≡ 2 ^ (8 * k)
octet_power zero = refl
octet_power (suc k) = pow-succ' 256 k ∙ (ap (λ w. 256 * w) (octet_power k) ∙ sym (octet_weight k))

octet_at : (i n : ℕ) → byte_at i n ≡ n / 2 ^ (8 * i) % 2 ^ 8
octet_at zero n = sym (ap (λ v. v % 256) (div-one n))
octet_at (suc i) n = ap (λ w. n / w % 256) (octet_power (suc i))

-- of limbs
octet_of_limbs : (xs : List ℕ) (q r : ℕ) → q < length xs → r < 8 → ((k : ℕ) → Fits w64 (get_or xs k 0)) → value xs / 2 ^ (64 * q + 8 * r) % 2 ^ 8 ≡ get_or xs q 0 / 2 ^ (8 * r) % 2 ^ 8
octet_of_limbs [] q r within small h = absurd (omega arith)
octet_of_limbs (x ∷ xs) zero r within small h =
    let k = 8 * r in let j = 56 - 8 * r in
    let place : 64 * 0 + 8 * r ≡ k = omega arith in
    let parts : 64 ≡ k + (8 + j) = omega arith in
    let weight = ap (λ (e : ℕ). 2 ^ e) parts ∙ (pow-add 2 k (8 + j) ∙ ap (λ w. 2 ^ k * w) (pow-add 2 8 j)) in
    let number : x + 2 ^ 64 * value xs ≡ x + 2 ^ k * (2 ^ 8 * (2 ^ j * value xs)) = omega (arith, ap (λ w. w * value xs) weight) in
    ap (λ (e : ℕ). (x + 2 ^ 64 * value xs) / 2 ^ e % 2 ^ 8) place
    ∙ (ap (λ v. v / 2 ^ k % 2 ^ 8) number
    ∙ (ap (λ v. v % 2 ^ 8) (add-mul-div_left x (2 ^ 8 * (2 ^ j * value xs)) (pow_pos k))
    ∙ add-mul-mod_self_left (x / 2 ^ k) (2 ^ 8) (2 ^ j * value xs)))
octet_of_limbs (x ∷ xs) (suc q) r within small h =
    let place : 64 * suc q + 8 * r ≡ 64 + (64 * q + 8 * r) = omega arith in
    let rest : (x + 2 ^ 64 * value xs) / 2 ^ 64 ≡ value xs = omega (arith, (h 0).fits) in
    ap (λ (e : ℕ). (x + 2 ^ 64 * value xs) / 2 ^ e % 2 ^ 8) place
    ∙ (ap (λ v. v % 2 ^ 8) (sym (shr-shr (x + 2 ^ 64 * value xs) 64 (64 * q + 8 * r)))
    ∙ (ap (λ v. v / 2 ^ (64 * q + 8 * r) % 2 ^ 8) rest ∙ octet_of_limbs xs q r (omega arith) small (λ k. h (suc k))))

-- the octet that is written next, before those that are written
pub write_step : (xs out : List ℕ) (i p b : ℕ) → ((k : ℕ) → Fits w64 (get_or xs k 0)) → i < 8 * length xs → p < length out → b ≡ bit_and (get_or xs (i / 8) 0 / 2 ^ (8 * (i % 8))) 255 → drop (p + 1) out ≡ bytes_high_first i (value xs) → drop p (set out p b) ≡ bytes_high_first (suc i) (value xs)
write_step xs out i p b h within place is before =
    let masked = is ∙ and_mask (get_or xs (i / 8) 0 / 2 ^ (8 * (i % 8))) 8 in
    let bits : 64 * (i / 8) + 8 * (i % 8) ≡ 8 * i = omega arith in
    let octet = ap (λ (e : ℕ). value xs / 2 ^ e % 2 ^ 8) (sym bits) ∙ octet_of_limbs xs (i / 8) (i % 8) (omega arith) (omega arith) h in
    let same : b ≡ byte_at i (value xs) = masked ∙ (sym octet ∙ sym (octet_at i (value xs))) in
    drop-set out p b place ∙ (ap (λ rest. b ∷ rest) before ∙ ap (λ first. first ∷ bytes_high_first i (value xs)) same)

-- ---- octets that write a number

pub length-octets : (k n : ℕ) → length (bytes_high_first k n) ≡ k
length-octets zero n = refl
length-octets (suc k) n = ap suc (length-octets k n)

number_of_octets : (k n : ℕ) → number_from_digits 256 (bytes_high_first k n) ≡ n % 2 ^ (8 * k)
number_of_octets zero n = omega arith
number_of_octets (suc k) n =
    let rest = bytes_high_first k n in
    let len : 8 * length rest ≡ 8 * k = ap (λ l. 8 * l) (length-octets k n) in
    let more : 8 * suc k ≡ 8 + 8 * k = omega arith in
    let split = ap (λ (e : ℕ). n % 2 ^ e) more ∙ mod-pow-add n 8 (8 * k) in
    omega (arith, number_after (0 * 256 + byte_at k n) rest, ap (λ (e : ℕ). byte_at k n * 2 ^ e) len, number_of_octets k n, split, ap (λ b. b * 2 ^ (8 * k)) (octet_at k n))

-- octets write the number that they were made of, where it fits
pub number_of_fitting : (k n : ℕ) → n < 2 ^ (8 * k) → number_from_digits 256 (bytes_high_first k n) ≡ n
number_of_fitting k n h = number_of_octets k n ∙ mod-eq_of_lt h

-- without the highest ones they write the same by fewer
pub drop-octets : (above k j n : ℕ) → k ≡ above + j → drop above (bytes_high_first k n) ≡ bytes_high_first j n
drop-octets zero k j n e =
    let same : k ≡ j = omega arith in
    ap (λ m. bytes_high_first m n) same
drop-octets (suc above) zero j n e = absurd (omega arith)
drop-octets (suc above) (suc k) j n e = drop-octets above k j n (omega arith)

-- a number fits fewer octets by one exactly where its first octet is zero
pub fits_whole : (bs : List ℕ) (len : ℕ) → ((k : ℕ) → Fits w8 (get_or bs k 0)) → length bs ≡ len → number_from_digits 256 bs < 256 ^ len
fits_whole bs len h e =
    let weight : 256 ^ len ≡ 2 ^ (8 * length bs) = octet_power len ∙ ap (λ (k : ℕ). 2 ^ (8 * k)) (sym e) in
    omega (arith, number-lt bs h)

fits_below : (b len : ℕ) (bs : List ℕ) → ((k : ℕ) → Fits w8 (get_or bs k 0)) → length bs ≡ len → b ≡ 0 → number_from_digits 256 (b ∷ bs) < 256 ^ len
fits_below b len bs h e none =
    let weight : 256 ^ len ≡ 2 ^ (8 * length bs) = octet_power len ∙ ap (λ (k : ℕ). 2 ^ (8 * k)) (sym e) in
    omega (arith, number-lt bs h, number_after (0 * 256 + b) bs, ap (λ x. x * 2 ^ (8 * length bs)) none)

fits_not : (b len : ℕ) (bs : List ℕ) → length bs ≡ len → 0 < b → 256 ^ len ≤ number_from_digits 256 (b ∷ bs)
fits_not b len bs e some =
    let weight : 256 ^ len ≡ 2 ^ (8 * length bs) = octet_power len ∙ ap (λ (k : ℕ). 2 ^ (8 * k)) (sym e) in
    omega (arith, number_after (0 * 256 + b) bs, mul-le-mul_right (2 ^ (8 * length bs)) some)

pub fits_by_first : (bs : List ℕ) (len : ℕ) → ((k : ℕ) → Fits w8 (get_or bs k 0)) → length bs ≡ len + 1 → eqb (get_or bs 0 0) 0 ≡ ltb (number_from_digits 256 bs) (256 ^ len)
fits_by_first [] len h e = absurd (omega arith)
fits_by_first (zero ∷ bs) len h e =
    sym (lt-ltb (number_from_digits 256 (zero ∷ bs)) (256 ^ len) (fits_below zero len bs (λ k. h (suc k)) (omega arith) refl))
fits_by_first (suc b ∷ bs) len h e =
    let some : suc b ≢ 0 = omega arith in
    ne_eqb (suc b) 0 some ∙ sym (le-ltb (number_from_digits 256 (suc b ∷ bs)) (256 ^ len) (fits_not (suc b) len bs (omega arith) (omega arith)))

-- a first octet that isn't zero bounds a number from both sides
pub first-le : (b : ℕ) (bs : List ℕ) → b * 2 ^ (8 * length bs) ≤ number_from_digits 256 (b ∷ bs)
first-le b bs = omega (arith, number_after (0 * 256 + b) bs)

pub first-lt : (b : ℕ) (bs : List ℕ) → ((k : ℕ) → Fits w8 (get_or bs k 0)) → number_from_digits 256 (b ∷ bs) < (b + 1) * 2 ^ (8 * length bs)
first-lt b bs h = omega (arith, number-lt bs h, number_after (0 * 256 + b) bs)
