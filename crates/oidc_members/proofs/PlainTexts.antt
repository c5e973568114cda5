-- What a text of plain bytes is written as.
use Rattle.std.proofs.Common.{◌≡◌, ℕ, zero, suc, ◌<◌, ◌==◌, ◌||◌, true, nat_lt, List, [], ◌∷◌, ◌++◌, slice_index, IsAscii, refl, ap, arith}
use Rattle.std.specs.List.{list_all}
use Rattle.std.proofs.lemmas.Bool.{and_parts, or_parts, not-true, eqb-false, ltb-false, ltb-true}
use Rattle.json.specs.Print.{escape}
use Rattle.json.proofs.Printed.Strings.{escape_byte_plain}
use Rattle.serde_json.specs.Data.{string}
use Rattle.serde_json.specs.Written.{compact_text}
use Rattle.oidc_members.specs.Sight.{is_plain, is_plain_ascii}

escape_plain : (s : List ℕ) → list_all is_plain s ≡ true → escape s ≡ s
escape_plain [] h = refl
escape_plain (x ∷ xs) h =
    let parts = and_parts (is_plain x) (list_all is_plain xs) h in
    let none = or_parts (nat_lt x 32 || x == 34) (x == 92) (not-true (nat_lt x 32 || x == 34 || x == 92) parts.0) in
    let first = or_parts (nat_lt x 32) (x == 34) none.0 in
    let rest = escape_plain xs parts.1 in
    λ i. escape_byte_plain x (eqb-false x 34 first.1) (eqb-false x 92 none.1) (ltb-false x 32 first.0) i ++ rest i

pub plain_written : (s : List ℕ) → list_all is_plain s ≡ true → compact_text (string s) ≡ 34 ∷ (s ++ 34 ∷ [])
plain_written s h = ap (λ t. 34 ∷ (t ++ 34 ∷ [])) (escape_plain s h)

-- bytes that are plain and ASCII are plain, and are ASCII
pub plain_of_ascii : (s : List ℕ) → list_all is_plain_ascii s ≡ true → list_all is_plain s ≡ true
plain_of_ascii [] h = refl
plain_of_ascii (x ∷ xs) h =
    let parts = and_parts (is_plain_ascii x) (list_all is_plain_ascii xs) h in
    let here = and_parts (is_plain x) (nat_lt x 128) parts.0 in
    rw here.0 (plain_of_ascii xs parts.1)

low_at : (s : List ℕ) → list_all is_plain_ascii s ≡ true → (i : ℕ) → slice_index s i < 128
low_at [] h i = omega arith
low_at (x ∷ xs) h zero = ltb-true x 128 (and_parts (is_plain x) (nat_lt x 128) (and_parts (is_plain_ascii x) (list_all is_plain_ascii xs) h).0).1
low_at (x ∷ xs) h (suc i) = low_at xs (and_parts (is_plain_ascii x) (list_all is_plain_ascii xs) h).1 i

pub ascii_of_plain : (s : List ℕ) → list_all is_plain_ascii s ≡ true → IsAscii s
ascii_of_plain s h = low_at s h
