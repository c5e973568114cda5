-- Numbers that are read of texts.
use Rattle.std.proofs.Common.{◌≡◌, ℕ, zero, suc, ◌^◌, ◌<◌, ◌≤◌, ◌==◌, ◌&&◌, Bool, true, false, cond, nat_lt, nat_le, ℤ, pos, neg_ℤ, List, [], ◌∷◌, length, Option, Some, None, Result, Ok, Err, option_map, w64, refl, sym, ap, ◌∙◌, arith}
use Rattle.std.specs.Prelude.{option_and_then, slice_index, if◌then◌else◌}
use Rattle.std.specs.Result.{result_ok, OkIff}
use Rattle.std.specs.Str.{all_ascii_digits}
use Rattle.std.specs.Str.Parse.{digits_value, ParsesSigned, ParsesUnsigned}
use Rattle.std.proofs.lemmas.Bool.{false≢true, ne_eqb}
use Rattle.std.proofs.lemmas.Bool.Decides.{nat_tests}
use Rattle.std.proofs.lemmas.Str.Parse.{IsNumeralModel, numerals_by_value, tells_all_ascii_digits, parse_signed_minus, parse_signed_plain, parse_plain, digits_value_short}
use Rattle.http.specs.StatusCode.{IsStatusCode}
use Rattle.oidc_readers.specs.Moments.{moment_at}
use Rattle.oidc_cli.specs.Values.{decimal_of, moment_of_text, status_code_of}
use Rattle.oidc_cli.specs.Commands.{in_drill, drill_count}

numerals : IsNumeralModel (λ ds. all_ascii_digits ds ≡ true) (digits_value 10)
numerals = numerals_by_value _ tells_all_ascii_digits

-- what is meant by the number that these digits write
picked : {E X A : Type 0} (meant : X → Option A) (Fits : Type 0) (f : ℕ → X) (ds : List ℕ) (some digits : Bool) (r : Result X E)
    → (0 < length ds → some ≡ true) → (some ≡ true → 0 < length ds)
    → OkIff r ((digits ≡ true) × (0 < length ds) × Fits) (f (digits_value 10 ds))
    → (¬ Fits → meant (f (digits_value 10 ds)) ≡ None)
    → option_and_then meant (result_ok r)
    ≡ option_and_then meant (option_map f (cond (some && digits) (Some (digits_value 10 ds)) None))
picked meant Fits f ds true true (Ok z) to from read far = ap meant read.1
picked meant Fits f ds true false (Ok z) to from read far = absurd (false≢true read.0.0)
picked meant Fits f ds false digits (Ok z) to from read far = absurd (false≢true (to read.0.1))
picked meant Fits f ds true true (Err e) to from read far = sym (far (λ fits. read (refl, from refl, fits)))
picked meant Fits f ds true false (Err e) to from read far = refl
picked meant Fits f ds false digits (Err e) to from read far = refl

picked_digits : {E X A : Type 0} (meant : X → Option A) (Fits : Type 0) (f : ℕ → X) (ds : List ℕ) (r : Result X E)
    → OkIff r ((all_ascii_digits ds ≡ true) × (0 < length ds) × Fits) (f (digits_value 10 ds))
    → (¬ Fits → meant (f (digits_value 10 ds)) ≡ None)
    → option_and_then meant (result_ok r) ≡ option_and_then meant (option_map f (decimal_of ds))
picked_digits meant Fits f ds r read far =
    picked meant Fits f ds (nat_lt 0 (length ds)) (all_ascii_digits ds) r (λ h. grind (arith, nat_tests)) (λ h. grind (arith, nat_tests)) read far

far_after : (n : ℕ) → ¬ (n < 2 ^ 63) → moment_at (pos n) ≡ None
far_after n big = let far : 253_402_207_200 < n = omega arith in grind (arith, nat_tests)

far_before : (n : ℕ) → ¬ (n ≤ 2 ^ 63) → moment_at (neg_ℤ (pos n)) ≡ None
far_before zero big = absurd (omega arith)
far_before (suc n) big = let far : 377_705_023_200 < n = omega arith in grind (arith, nat_tests)

by_sign : {E : Type 0} (b : ℕ) (text : List ℕ) (r : Result ℤ E) (minus : Bool) → (b == 45) ≡ minus → (b == 43) ≡ false
    → ParsesSigned w64 10 (b ∷ text) r
    → option_and_then moment_at (result_ok r)
    ≡ option_and_then moment_at (cond minus (option_map (λ n. neg_ℤ (pos n)) (decimal_of text)) (option_map pos (decimal_of (b ∷ text))))
by_sign b text r true minus plain read =
    picked_digits moment_at (digits_value 10 text ≤ 2 ^ 63) (λ n. neg_ℤ (pos n)) text r
    (parse_signed_minus numerals w64 (b ∷ text) r read (grind (arith, nat_tests))) (far_before (digits_value 10 text))
by_sign b text r false minus plain read =
    picked_digits moment_at (digits_value 10 (b ∷ text) < 2 ^ 63) pos (b ∷ text) r
    (parse_signed_plain numerals w64 (b ∷ text) r read (grind (arith, nat_tests)) (grind (arith, nat_tests))) (far_after (digits_value 10 (b ∷ text)))

pub parsed_seconds : {E : Type 0} (text : List ℕ) (r : Result ℤ E) → (slice_index text 0 == 43) ≡ false
    → ParsesSigned w64 10 text r → option_and_then moment_at (result_ok r) ≡ moment_of_text text
unfolding moment_of_text
parsed_seconds [] r plain read =
    picked_digits moment_at (0 < 2 ^ 63) pos [] r (parse_signed_plain numerals w64 [] r read (omega arith) (omega arith)) (far_after 0)
parsed_seconds (b ∷ text) r plain read = by_sign b text r (b == 45) refl plain read

no_number : (some : Bool) (n : ℕ) → cond (some && false) (Some n) None ≡ None
no_number true n = refl
no_number false n = refl

plus_is_no_number : (text : List ℕ) → decimal_of (43 ∷ text) ≡ None
plus_is_no_number text = no_number (nat_lt 0 (length (43 ∷ text))) (digits_value 10 (43 ∷ text))

pub plus_is_no_moment : (text : List ℕ) → (slice_index text 0 == 43) ≡ true → None ≡ moment_of_text text
unfolding moment_of_text
plus_is_no_moment [] plus = refl
plus_is_no_moment (b ∷ text) plus =
    let is : b ≡ 43 = grind (arith, nat_tests) in
    rw is (ap (λ n. option_and_then moment_at (option_map pos n)) (sym (plus_is_no_number text)))

-- ---- status codes

-- the status code of a text of three bytes or not, and its number
abbrev status_from : Bool → Option ℕ → Option ℕ
status_from three number = option_and_then (λ n. if nat_le 100 n then Some n else None) (cond three number None)

none_from : (three : Bool) → None ≡ status_from three None
none_from true = refl
none_from false = refl

pub other_length_is_no_status : (text : List ℕ) → ¬ (length text ≡ 3) → None ≡ status_code_of text
unfolding status_code_of
other_length_is_no_status text other = ap (λ three. status_from three (decimal_of text)) (sym (ne_eqb (length text) 3 other))

pub plus_is_no_status : (text : List ℕ) → (slice_index text 0 == 43) ≡ true → None ≡ status_code_of text
unfolding status_code_of
plus_is_no_status [] plus = refl
plus_is_no_status (b ∷ text) plus =
    let is : b ≡ 43 = grind (arith, nat_tests) in
    rw is (none_from (length (43 ∷ text) == 3) ∙ ap (status_from (length (43 ∷ text) == 3)) (sym (plus_is_no_number text)))

-- three digits write less than a thousand
three_digits : (text : List ℕ) → length text ≡ 3 → all_ascii_digits text ≡ true → digits_value 10 text < 1000
three_digits text three digits =
    let long : length text ≤ 3 = omega arith in digits_value_short numerals text 3 digits long

unread_number : (P : Type 0) (text : List ℕ) (digits : Bool) → (digits ≡ true → P) → (P → ⊥) → cond (nat_lt 0 (length text) && digits) (Some (digits_value 10 text)) None ≡ None
unread_number P text true h n = absurd (n (h refl))
unread_number P text false h n = no_number (nat_lt 0 (length text)) (digits_value 10 text)

pub unread_is_no_status : {E : Type 0} (text : List ℕ) (e : E) → length text ≡ 3 → (slice_index text 0 == 43) ≡ false
    → ParsesUnsigned 16 10 text (Err e) → None ≡ status_code_of text
unfolding status_code_of
unread_is_no_status text e three plain read =
    let no = parse_plain numerals 16 text (Err e) read (grind (arith, nat_tests)) in
    let unread : decimal_of text ≡ None = unread_number _ text (all_ascii_digits text) (λ digits.
    let small = three_digits text three digits in (digits, grind (arith, nat_tests), omega arith)) no in
    none_from (length text == 3) ∙ ap (status_from (length text == 3)) (sym unread)

too_low : (n : ℕ) (high : Bool) → ¬ (high ≡ true) → None ≡ (if high then Some n else None)
too_low n true low = absurd (low refl)
too_low n false low = refl

code_of : {F : Type 0} (n : ℕ) (r : Result ℕ F) → n < 1000 → OkIff r (IsStatusCode n) n → result_ok r ≡ (if nat_le 100 n then Some n else None)
code_of n (Ok code) small read = let low = read.0.0 in rw (read.1) (grind (arith, nat_tests))
code_of n (Err e) small read = too_low n (nat_le 100 n) (λ high. read (grind (arith, nat_tests), small))

pub read_status : {F : Type 0} (E : Type 0) (text : List ℕ) (n : ℕ) (r : Result ℕ F) → length text ≡ 3 → (slice_index text 0 == 43) ≡ false
    → ParsesUnsigned {E = E} 16 10 text (Ok n) → OkIff r (IsStatusCode n) n → result_ok r ≡ status_code_of text
unfolding status_code_of
read_status {F} E text n r three plain read code =
    let own = parse_plain numerals {E = E} 16 text (Ok n) read (grind (arith, nat_tests)) in
    let some : nat_lt 0 (length text) ≡ true = grind (arith, nat_tests) in
    let number : decimal_of text ≡ Some (digits_value 10 text) = rw (some, own.0.0) refl in
    let small : n < 1000 = rw own.1 (three_digits text three own.0.0) in
    code_of n r small code
    ∙ rw own.1 (ap (λ found. status_from true found) (sym number) ∙ ap (λ n. status_from (n == 3) (decimal_of text)) (sym three))

-- ---- the logins of a drill

far_count : (n : ℕ) → ¬ (n < 2 ^ 16) → in_drill n ≡ None
far_count n big = let far : 4096 < n = omega arith in grind (arith, nat_tests)

same_number : (found : Option ℕ) → option_map (λ n. n) found ≡ found
same_number None = refl
same_number (Some n) = refl

begun_by : (text : List ℕ) (begins : Bool) → (slice_index text 0 == 48) ≡ begins
    → (if begins then None else option_and_then in_drill (decimal_of text)) ≡ drill_count text
unfolding drill_count
begun_by text begins is = ap (λ b. if b then None else option_and_then in_drill (decimal_of text)) (sym is)

pub zero_is_no_count : (text : List ℕ) → (slice_index text 0 == 48) ≡ true → None ≡ drill_count text
zero_is_no_count text is = begun_by text true is

either_none : (begins : Bool) → None ≡ (if begins then None else option_and_then in_drill None)
either_none true = refl
either_none false = refl

pub plus_is_no_count : (text : List ℕ) → (slice_index text 0 == 43) ≡ true → None ≡ drill_count text
unfolding drill_count
plus_is_no_count [] plus = refl
plus_is_no_count (b ∷ text) plus =
    let is : b ≡ 43 = grind (arith, nat_tests) in
    rw is (either_none (slice_index (43 ∷ text) 0 == 48) ∙ ap (λ n. if slice_index (43 ∷ text) 0 == 48 then None else option_and_then in_drill n) (sym (plus_is_no_number text)))

pub parsed_count : {E : Type 0} (text : List ℕ) (r : Result ℕ E) → (slice_index text 0 == 48) ≡ false → (slice_index text 0 == 43) ≡ false
    → ParsesUnsigned 16 10 text r → option_and_then in_drill (result_ok r) ≡ drill_count text
parsed_count text r nonzero plain read =
    picked_digits in_drill (digits_value 10 text < 2 ^ 16) (λ n. n) text r (parse_plain numerals 16 text r read (grind (arith, nat_tests))) (far_count (digits_value 10 text))
    ∙ ap (option_and_then in_drill) (same_number (decimal_of text)) ∙ begun_by text false nonzero
