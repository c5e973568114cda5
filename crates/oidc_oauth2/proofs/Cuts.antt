-- The essence of a media type, as it is cut out of its value.
use Rattle.std.proofs.Common.{◌≡◌, ◌≤◌, ◌-◌, ◌+◌, ℕ, zero, suc, Bool, true, false, List, [], ◌∷◌, ◌++◌, length, take, drop, Some, None, cond, nat_lt, refl, subst, sym, ◌∙◌, ap, arith}
use Rattle.std.specs.Prelude.{◌==◌, ◌&&◌, not, reverse}
use Rattle.std.specs.List.{prefix_len, suffix_len, before_first, position, position_or_len}
use Rattle.std.specs.Char.{is_ascii_whitespace}
use Rattle.std.specs.Str.{IsTrimAscii}
use Rattle.std.proofs.lemmas.Str.Ascii.{trim_ascii_is}
use Rattle.std.proofs.lemmas.List.Sums.{prefix_len-le-length}
use Rattle.std.proofs.Math.Seq.{take-length}
use Rattle.std.proofs.lemmas.List.{reverse-append}
use Rattle.http_header.specs.Token.{is_visible_or_blank}
use Rattle.http_header.specs.FieldValue.{is_visible_text}
use Rattle.oidc_oauth2.specs.HttpUtils.{essence, is_blank}

abbrev is_semicolon : ℕ → Bool
is_semicolon b = b == 59

abbrev place : List ℕ → ℕ
place value = position_or_len is_semicolon value

fits : (value : List ℕ) → place value ≤ length value
fits value = prefix_len-le-length (λ b. not (is_semicolon b)) value

found : (b : Bool) (n i : ℕ) → cond b (Some n) None ≡ Some i → n ≡ i
found true n i h = cc
found false n i h = absurd (cc)

not_found : (b : Bool) (n : ℕ) → cond b (Some n) None ≡ None → b ≡ false
not_found true n h = absurd (cc)
not_found false n h = refl

at_end : (n len : ℕ) → nat_lt n len ≡ false → n ≤ len → n ≡ len
at_end n len h le = grind arith

pub cut_at : (value : List ℕ) (i : ℕ) → position (λ b. b == 59) value ≡ Some i → take i value ≡ before_first (λ b. b == 59) value
cut_at value i h = ap (λ n. take n value) (sym (found (nat_lt (place value) (length value)) (place value) i h))

pub within : (value : List ℕ) (i : ℕ) → position (λ b. b == 59) value ≡ Some i → i ≤ length value
within value i h = omega (arith, fits value, found (nat_lt (place value) (length value)) (place value) i h)

pub uncut : (value : List ℕ) → position (λ b. b == 59) value ≡ None → value ≡ before_first (λ b. b == 59) value
uncut value h =
    let whole : place value ≡ length value = at_end (place value) (length value) (not_found (nat_lt (place value) (length value)) (place value) h) (fits value) in
    sym (ap (λ n. take n value) whole ∙ take-length value)

-- ---- on visible text, white space is spaces and tabs alone

abbrev Agrees : ℕ → Type 0
Agrees b = is_ascii_whitespace b ≡ is_blank b

abbrev Agree : List ℕ → Type 0
Agree [] = Unit {0}
Agree (b ∷ bs) = Agrees b × Agree bs

agrees : (b : ℕ) → is_visible_or_blank b ≡ true → Agrees b
agrees b h = grind arith

both : (a b : Bool) → (a && b) ≡ true → (a ≡ true) × (b ≡ true)
both true b h = (refl, h)
both false b h = absurd (cc)

agree : (bs : List ℕ) → is_visible_text bs ≡ true → Agree bs
agree [] h = tt
agree (b ∷ bs) h = let parts = both (is_visible_or_blank b) (is_visible_text bs) h in (agrees b parts.0, agree bs parts.1)

agree_take : (n : ℕ) (bs : List ℕ) → Agree bs → Agree (take n bs)
agree_take zero bs h = tt
agree_take (suc n) [] h = tt
agree_take (suc n) (b ∷ bs) h = (h.0, agree_take n bs h.1)

agree_drop : (n : ℕ) (bs : List ℕ) → Agree bs → Agree (drop n bs)
agree_drop zero bs h = h
agree_drop (suc n) [] h = tt
agree_drop (suc n) (b ∷ bs) h = agree_drop n bs h.1

agree_end : (bs : List ℕ) (b : ℕ) → Agree bs → Agrees b → Agree (bs ++ b ∷ [])
agree_end [] b h last = (last, tt)
agree_end (c ∷ bs) b h last = (h.0, agree_end bs b h.1 last)

agree_reverse : (bs : List ℕ) → Agree bs → Agree (reverse bs)
agree_reverse [] h = tt
agree_reverse (b ∷ bs) h = subst Agree (sym (reverse-append (b ∷ []) bs)) (agree_end (reverse bs) b (agree_reverse bs h.1) h.0)

same_prefix : (bs : List ℕ) → Agree bs → prefix_len is_ascii_whitespace bs ≡ prefix_len is_blank bs
same_prefix [] h = refl
same_prefix (b ∷ bs) h =
    ap (λ passes. cond passes (1 + prefix_len is_ascii_whitespace bs) 0) h.0 ∙ ap (λ n. cond (is_blank b) (1 + n) 0) (same_prefix bs h.1)

abbrev trimmed_by : (ℕ → Bool) → List ℕ → List ℕ
trimmed_by p bs = let rest = drop (prefix_len p bs) bs in take (length rest - suffix_len p rest) rest

same_trimmed : (bs : List ℕ) → Agree bs → trimmed_by is_ascii_whitespace bs ≡ trimmed_by is_blank bs
same_trimmed bs h =
    let rest = drop (prefix_len is_blank bs) bs in
    ap (λ n. (let t = drop n bs in take (length t - suffix_len is_ascii_whitespace t) t)) (same_prefix bs h)
    ∙ ap (λ n. take (length rest - n) rest) (same_prefix (reverse rest) (agree_reverse rest (agree_drop (prefix_len is_blank bs) bs h)))

pub essence_is : (value rest r : List ℕ) → is_visible_text value ≡ true → rest ≡ before_first (λ b. b == 59) value → IsTrimAscii rest r → r ≡ essence value
unfolding essence
essence_is value rest r visible e h =
    trim_ascii_is rest r (drop (prefix_len is_ascii_whitespace rest) rest) refl h
    ∙ ap (trimmed_by is_ascii_whitespace) e
    ∙ same_trimmed (before_first is_semicolon value) (agree_take (place value) value (agree value visible))
