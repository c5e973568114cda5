-- What encoded bytes stand for, a byte at a time.
use Rattle.std.proofs.Common.{◌≡◌, ◌≢◌, ℕ, ◌+◌, ◌*◌, ◌<◌, ◌≤◌, Bool, true, false, List, [], ◌∷◌, ◌++◌, length, get_or, take, drop, map, refl, sym, ap, ap₂, ◌∙◌, subst, ⊎_elim, append_assoc, append-nil, arith, All}
use Rattle.std.specs.Char.{digit_value}
use Rattle.std.proofs.Math.ListN.{set}
use Rattle.std.proofs.lemmas.Bool.{cond-false, cases_eq, ne_eqb}
use Rattle.std.proofs.lemmas.List.{take_more_set, take-append-drop, length-take, get_or-take}
use Rattle.std.proofs.lemmas.List.Elements.{All-from_get_or, All-head, All-tail}
use Rattle.percent_encoding.specs.Percent.{percent_decode}
use Rattle.percent_encoding.proofs.PercentLemmas.{percent_decode-nil, percent_decode_not_percent, percent_decode_escape, KeepsFirst_from_no_escape}
use Rattle.form_urlencoded.specs.Form.{plus_to_space, decode, IsPlain}
use Rattle.form_urlencoded.proofs.FormLemmas.{decode_plain}
use Rattle.memchr.specs.Find.{Nowhere, Passes, is_byte2}

pub decode_plus : (b : ℕ) (bs : List ℕ) → b ≡ 43 → decode (b ∷ bs) ≡ 32 ∷ decode bs
decode_plus b bs is = rw is (percent_decode_not_percent 32 (map plus_to_space bs) (λ e. omega arith))

pub decode_other : (b : ℕ) (bs : List ℕ) → b ≢ 43 → b ≢ 37 → decode (b ∷ bs) ≡ b ∷ decode bs
decode_other b bs no_plus no_percent = rw (ne_eqb b 43 no_plus) (percent_decode_not_percent b (map plus_to_space bs) no_percent)

-- ---- escapes

not_plus : (h : ℕ) → digit_value h < 16 → h ≢ 43
not_plus h digit is =
    let low : digit_value 43 < 16 = subst (λ x. digit_value x < 16) is digit in
    let never : ⊥ = omega arith in never

kept : (h : ℕ) → digit_value h < 16 → plus_to_space h ≡ h
kept h digit = cond-false _ _ _ (ne_eqb h 43 (not_plus h digit))

digit_before : (h : ℕ) → digit_value (plus_to_space h) < 16 → digit_value h < 16
digit_before h digit =
    ⊎_elim
    (λ is. let low : digit_value (plus_to_space 43) < 16 = subst (λ x. digit_value (plus_to_space x) < 16) is digit in
    let never : ⊥ = omega arith in absurd never)
    (λ other. subst (λ x. digit_value x < 16) (cond-false _ _ _ (ne_eqb h 43 other)) digit)
    (cases_eq h 43)

swapped : (a b : ℕ) → 16 * a + b ≡ a * 16 + b
swapped a b = omega arith

decode_digits : (high low : ℕ) (rest : List ℕ) → digit_value high < 16 → digit_value low < 16
    → decode (37 ∷ high ∷ low ∷ rest) ≡ (digit_value high * 16 + digit_value low) ∷ decode rest
decode_digits high low rest is_high is_low =
    let more : List ℕ = map plus_to_space rest in
    ap₂ (λ h l. percent_decode (37 ∷ h ∷ l ∷ more)) (kept high is_high) (kept low is_low)
    ∙ percent_decode_escape 37 high low more refl is_high is_low
    ∙ ap (λ x. x ∷ decode rest) (swapped (digit_value high) (digit_value low))

pub decode_at_escape : (later : List ℕ) → 2 ≤ length later → digit_value (get_or later 0 0) < 16 → digit_value (get_or later 1 0) < 16
    → decode (37 ∷ later) ≡ (digit_value (get_or later 0 0) * 16 + digit_value (get_or later 1 0)) ∷ decode (drop 2 later)
decode_at_escape [] two is_high is_low = absurd (omega arith)
decode_at_escape (h ∷ []) two is_high is_low = absurd (omega arith)
decode_at_escape (h ∷ l ∷ rest) two is_high is_low = decode_digits h l rest is_high is_low

pub decode_no_escape : (later : List ℕ) → (2 ≤ length later → digit_value (get_or later 0 0) < 16 → digit_value (get_or later 1 0) < 16 → ⊥)
    → decode (37 ∷ later) ≡ 37 ∷ decode later
decode_no_escape [] never = KeepsFirst_from_no_escape (37 ∷ []) (λ long _ _ _. omega arith)
decode_no_escape (h ∷ []) never = KeepsFirst_from_no_escape (37 ∷ plus_to_space h ∷ []) (λ long _ _ _. omega arith)
decode_no_escape (h ∷ l ∷ rest) never =
    KeepsFirst_from_no_escape (37 ∷ plus_to_space h ∷ plus_to_space l ∷ map plus_to_space rest)
    (λ _ _ is_high is_low. never (omega arith) (digit_before h is_high) (digit_before l is_low))

-- ---- a room that is filled

pub filled_more : (room rest behind whole : List ℕ) (used byte : ℕ) → used < length room → decode rest ≡ byte ∷ decode behind
    → take used room ++ decode rest ≡ whole → take (used + 1) (set room used byte) ++ decode behind ≡ whole
filled_more room rest behind whole used byte within step is =
    ap (λ x. x ++ decode behind) (take_more_set room used byte within) ∙ append_assoc (take used room) (byte ∷ []) (decode behind)
    ∙ ap (λ x. take used room ++ x) (sym step) ∙ is

pub part_decoded : (old new front rest later whole : List ℕ) → front ++ decode later ≡ decode rest → new ≡ old ++ front
    → old ++ decode rest ≡ whole → new ++ decode later ≡ whole
part_decoded old new front rest later whole part grown is =
    ap (λ x. x ++ decode later) grown ∙ append_assoc old front (decode later) ∙ ap (λ x. old ++ x) part ∙ is

pub all_decoded : (bytes rest whole : List ℕ) → rest ≡ [] → bytes ++ decode rest ≡ whole → bytes ≡ whole
all_decoded bytes rest whole none is =
    sym (append-nil bytes) ∙ ap (λ x. bytes ++ x) (sym (ap decode none ∙ percent_decode-nil)) ∙ is

-- ---- bytes that stand for themselves

pub plain_decodes : (bs : List ℕ) → Nowhere (Passes (is_byte2 37 43) bs) 0 (length bs) → decode bs ≡ bs
plain_decodes bs none =
    decode_plain bs
    (All-from_get_or IsPlain bs 0
    (λ i within. (λ plus. none i (omega arith) within (rw plus refl), λ percent. none i (omega arith) within (rw percent refl))))

-- plain bytes before others
plain_before : (front later : List ℕ) → All IsPlain front → decode (front ++ later) ≡ front ++ decode later
plain_before [] later plain = refl
plain_before (b ∷ bs) later plain =
    let first = All-head IsPlain b bs plain in
    decode_other b (bs ++ later) first.0 first.1 ∙ ap (λ l. b ∷ l) (plain_before bs later (All-tail IsPlain b bs plain))

pub plain_at : (bs : List ℕ) (i : ℕ) → i ≤ length bs → Nowhere (Passes (is_byte2 37 43) bs) 0 i → take i bs ++ decode (drop i bs) ≡ decode bs
plain_at bs i within none =
    sym (ap decode (sym (take-append-drop i bs)) ∙ plain_before (take i bs) (drop i bs) plain)
  where
    short : length (take i bs) ≤ i
    short = omega (arith, length-take i bs)

    same : (k : ℕ) → k < i → get_or (take i bs) k 0 ≡ get_or bs k 0
    same k less = get_or-take i bs k 0 less

    plain : All IsPlain (take i bs)
    plain =
        All-from_get_or IsPlain (take i bs) 0
        (λ k inside. let less : k < i = omega (arith, short) in
        (λ plus. none k (omega arith) less (rw (sym (same k less) ∙ plus) refl), λ percent. none k (omega arith) less (rw (sym (same k less) ∙ percent) refl)))

pub is_false : (b : Bool) → (b ≡ true → ⊥) → b ≡ false
is_false true h = absurd (h refl)
is_false false h = refl
