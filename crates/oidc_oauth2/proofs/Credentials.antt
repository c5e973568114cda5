-- Base64 is a header's value.
use Rattle.std.proofs.Common.{◌≡◌, ℕ, zero, suc, ◌+◌, ◌*◌, ◌/◌, ◌%◌, ◌<◌, Bool, true, false, List, [], ◌∷◌, ◌++◌, slice_index, replicate, refl, arith, subst, ⊎_elim, ◌⊎◌}
use Rattle.std.specs.Prelude.{All, IsTrue, IsUtf8, ◌&&◌, codes}
use Rattle.http_header.specs.FieldValue.{IsFieldValue}
use Rattle.oidc_pairs.proofs.Theorems.{All-IsUtf8}
use Rattle.std.proofs.lemmas.List.Elements.{All-nil, All-cons, All-append, All-head, All-tail}
use Rattle.http_header.specs.Token.{is_value_byte}
use Rattle.base64.specs.Tables.{all_below}
use Rattle.base64.specs.Rfc4648.{encode_symbols, encode_group}
use Rattle.base64.specs.GeneralPurpose.{encode_of, engine_symbols}
use Rattle.base64.specs.Engines.{standard}

abbrev symbols : List ℕ
symbols = engine_symbols standard

abbrev IsByte : ℕ → Type 0
IsByte b = b < 256

abbrev IsValue : ℕ → Type 0
IsValue b = IsTrue (is_value_byte b)

abbrev is_good : ℕ → Bool
is_good i = is_value_byte (slice_index symbols i)

both_true : (a b : Bool) → (a && b) ≡ true → (a ≡ true) × (b ≡ true)
both_true true b h = (refl, h)
both_true false b h = cc

split : (i n : ℕ) → i < suc n → (i < n) ⊎ (n ≡ i)
split i n small = grind arith

below : (p : ℕ → Bool) (n : ℕ) → all_below p n ≡ true → (i : ℕ) → i < n → p i ≡ true
below p zero h i small = absurd (omega arith)
below p (suc n) h i small =
    let parts = both_true (p n) (all_below p n) h in
    ⊎_elim (λ less. below p n parts.1 i less) (λ same. subst (λ k. p k ≡ true) same parts.0) (split i n small)

all_good : all_below is_good 64 ≡ true
all_good = refl

symbol : (i : ℕ) → i < 64 → IsValue (slice_index symbols i)
symbol i small = below is_good 64 all_good i small

one : (i : ℕ) → i < 64 → All IsValue (slice_index symbols i ∷ [])
one i a = All-cons IsValue _ [] (symbol i a) (All-nil IsValue)

two : (i j : ℕ) → i < 64 → j < 64 → All IsValue (slice_index symbols i ∷ slice_index symbols j ∷ [])
two i j a b = All-cons IsValue _ (slice_index symbols j ∷ []) (symbol i a) (one j b)

three : (i j k : ℕ) → i < 64 → j < 64 → k < 64 → All IsValue (slice_index symbols i ∷ slice_index symbols j ∷ slice_index symbols k ∷ [])
three i j k a b c = All-cons IsValue _ (slice_index symbols j ∷ slice_index symbols k ∷ []) (symbol i a) (two j k b c)

four : (i j k l : ℕ) → i < 64 → j < 64 → k < 64 → l < 64 → All IsValue (slice_index symbols i ∷ slice_index symbols j ∷ slice_index symbols k ∷ slice_index symbols l ∷ [])
four i j k l a b c d = All-cons IsValue _ (slice_index symbols j ∷ slice_index symbols k ∷ slice_index symbols l ∷ []) (symbol i a) (three j k l b c d)

values_of_symbols : (m : List ℕ) → All IsByte m → All IsValue (encode_symbols symbols m)
unfolding encode_symbols
values_of_symbols [] h = All-nil IsValue
values_of_symbols (a ∷ []) h =
    let x = All-head IsByte a [] h in
    two (a / 4) (a % 4 * 16) (grind arith) (grind arith)
values_of_symbols (a ∷ b ∷ []) h =
    let x = All-head IsByte a (b ∷ []) h in
    let y = All-head IsByte b [] (All-tail IsByte a (b ∷ []) h) in
    three (a / 4) (a % 4 * 16 + b / 16) (b % 16 * 4) (grind arith) (grind arith) (grind arith)
values_of_symbols (a ∷ b ∷ c ∷ rest) h =
    let x = All-head IsByte a (b ∷ c ∷ rest) h in
    let t = All-tail IsByte a (b ∷ c ∷ rest) h in
    let y = All-head IsByte b (c ∷ rest) t in
    let u = All-tail IsByte b (c ∷ rest) t in
    let z = All-head IsByte c rest u in
    All-append IsValue (encode_group symbols a b c) (encode_symbols symbols rest)
    (four (a / 4) (a % 4 * 16 + b / 16) (b % 16 * 4 + c / 64) (c % 64) (grind arith) (grind arith) (grind arith) (grind arith))
    (values_of_symbols rest (All-tail IsByte c rest u))

padding : (n : ℕ) → All IsValue (replicate n 61)
padding zero = All-nil IsValue
padding (suc n) = All-cons IsValue 61 (replicate n 61) refl (padding n)

-- the encoding of bytes is a value
pub values_of_base64 : (m : List ℕ) → All IsByte m → All IsValue (encode_of standard m)
values_of_base64 m h = All-append IsValue (encode_symbols symbols m) (replicate _ 61) (values_of_symbols m h) (padding _)

values_of_scheme : All IsValue (codes "Basic ")
values_of_scheme =
    All-cons IsValue 66 (codes "asic ") refl (All-cons IsValue 97 (codes "sic ") refl (All-cons IsValue 115 (codes "ic ") refl
    (All-cons IsValue 105 (codes "c ") refl (All-cons IsValue 99 (codes " ") refl (All-cons IsValue 32 [] refl (All-nil IsValue))))))

-- Basic credentials are a header's value
pub values_of_credentials : (plain : List ℕ) → IsUtf8 plain → IsFieldValue (codes "Basic " ++ encode_of standard plain)
values_of_credentials plain text =
    All-append IsValue (codes "Basic ") (encode_of standard plain) values_of_scheme (values_of_base64 plain (All-IsUtf8 plain text))
