-- Text is bytes.
use Rattle.std.proofs.Common.{◌≡◌, ℕ, ◌+◌, ◌/◌, ◌<◌, true, List, [], ◌∷◌, All, IsUtf8, subst, ⊎_elim, arith}
use Rattle.std.specs.Prelude.{encode_utf8_all, nat_lt}
use Rattle.std.proofs.lemmas.Bool.{and_parts, cond_both}
use Rattle.std.proofs.lemmas.Bool.Decides.{nat_tests}
use Rattle.std.proofs.lemmas.List.Elements.{All-nil, All-cons, All-append}
use lib.Utf8.{encode, next, scalar, scalars, scalar_cases}

abbrev pub IsByte : ℕ → Type 0
IsByte b = b < 256

one : (a : ℕ) → a < 256 → All IsByte (a ∷ [])
one a p = All-cons IsByte a [] p (All-nil IsByte)

later : (c : ℕ) (bs : List ℕ) → All IsByte bs → All IsByte (next c ∷ bs)
later c bs h = All-cons IsByte (next c) bs (grind arith) h

last_one : (c : ℕ) → All IsByte (next c ∷ [])
last_one c = later c [] (All-nil IsByte)

last_two : (c : ℕ) → All IsByte (next (c / 64) ∷ next c ∷ [])
last_two c = later (c / 64) (next c ∷ []) (last_one c)

last_three : (c : ℕ) → All IsByte (next (c / 4096) ∷ next (c / 64) ∷ next c ∷ [])
last_three c = later (c / 4096) (next (c / 64) ∷ next c ∷ []) (last_two c)

All-encode : (c : ℕ) → c < 1114112 → All IsByte (encode c)
unfolding encode
All-encode c small =
    let P = All IsByte in
    cond_both (nat_lt c 128) (c ∷ []) _ P (λ t. one c (grind (arith, nat_tests)))
    (λ _. cond_both (nat_lt c 2048) ((192 + c / 64) ∷ next c ∷ []) _ P
    (λ t. All-cons IsByte (192 + c / 64) (next c ∷ []) (grind (arith, nat_tests)) (last_one c))
    (λ _. cond_both (nat_lt c 65536) ((224 + c / 4096) ∷ next (c / 64) ∷ next c ∷ []) ((240 + c / 262144) ∷ next (c / 4096) ∷ next (c / 64) ∷ next c ∷ []) P
    (λ t. All-cons IsByte (224 + c / 4096) (next (c / 64) ∷ next c ∷ []) (grind (arith, nat_tests)) (last_two c))
    (λ _. All-cons IsByte (240 + c / 262144) (next (c / 4096) ∷ next (c / 64) ∷ next c ∷ []) (grind arith) (last_three c))))

scalar_small : (c : ℕ) → scalar c ≡ true → c < 1114112
scalar_small c h = ⊎_elim (λ low. omega arith) (λ high. high.1) (scalar_cases c h)

All-encodes : (cs : List ℕ) → scalars cs ≡ true → All IsByte (encode_utf8_all cs)
All-encodes [] h = All-nil IsByte
All-encodes (c ∷ cs) h =
    let parts = and_parts (scalar c) (scalars cs) h in
    All-append IsByte (encode c) (encode_utf8_all cs) (All-encode c (scalar_small c parts.0)) (All-encodes cs parts.1)

-- each byte of a text is below 256
pub All-IsUtf8 : (bs : List ℕ) → IsUtf8 bs → All IsByte bs
All-IsUtf8 bs text = subst (All IsByte) text.1.1 (All-encodes text.0 text.1.0)
