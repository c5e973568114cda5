-- The text of a value: one pass over it is quiet and ends as it began, and no space stands at its ends.
use Rattle.std.proofs.Common.{◌≡◌, ◌≢◌, ℕ, zero, suc, ◌+◌, ◌-◌, ◌/◌, ◌%◌, ◌<◌, ◌≤◌, Bool, true, false, not, cond, eqb, ◌&&◌, inl, inr, pos, negsuc, List, [], ◌∷◌, ◌++◌, length, take, drop, reverse, decimal, refl, sym, ap, ◌∙◌, subst, arith, append_assoc}
use Rattle.std.proofs.lemmas.Bool.{and_parts, and_from, cases_lt, cases_eq, false≢true, ne_eqb, lt-ltb, not-true, or_parts}
use Rattle.std.proofs.lemmas.List.{reverse-append, take_all}
use Rattle.std.specs.Prelude.{⊤}
use Rattle.std.specs.List.{prefix_len, suffix_len}
use Rattle.std.specs.Fmt.{digits, digits_onto, digit_glyph}
use Rattle.json.specs.Print.{escape_byte, escape, quoted}
use Rattle.json.proofs.Printed.Strings.{escape_byte_plain}
use Rattle.serde_json.specs.Data.{Num, unsigned, negative, float, Data, null, boolean, number, string, array, object, Items, no_items, item, Members, no_members, member}
use Rattle.serde_json.specs.Find.{is_float}
use Rattle.serde_json.specs.Written.{number_text, has_float, items_have_float, members_have_float, comma_if, compact_text, items_text, members_text}
use Rattle.oidc_members.specs.Objects.{is_space, without_spaces_after, trimmed}
use Rattle.oidc_readers.proofs.Scans.{State, outside_at, step, is_quiet, Runs, runs_on}

-- ---- bytes that mean nothing outside strings

abbrev is_bland : ℕ → Bool
is_bland b = not (eqb b 34) && (not (eqb b 44) && (not (eqb b 58) && (not (eqb b 91) && (not (eqb b 92) && (not (eqb b 93) && (not (eqb b 123) && (not (eqb b 125) && not (is_space b))))))))

record Bland (b : ℕ) : Type 0 where
  quote : eqb b 34 ≡ false
  comma : eqb b 44 ≡ false
  colon : eqb b 58 ≡ false
  open_bracket : eqb b 91 ≡ false
  backslash : eqb b 92 ≡ false
  close_bracket : eqb b 93 ≡ false
  open_brace : eqb b 123 ≡ false
  close_brace : eqb b 125 ≡ false
  space : is_space b ≡ false

bland : (b : ℕ) → is_bland b ≡ true → Bland b
bland b h =
    let p = and_parts _ _ h in
    let q = and_parts _ _ p.1 in
    let r = and_parts _ _ q.1 in
    let s = and_parts _ _ r.1 in
    let t = and_parts _ _ s.1 in
    let u = and_parts _ _ t.1 in
    let v = and_parts _ _ u.1 in
    let w = and_parts _ _ v.1 in
    record {
      quote = not-true _ p.0;
      comma = not-true _ q.0;
      colon = not-true _ r.0;
      open_bracket = not-true _ s.0;
      backslash = not-true _ t.0;
      close_bracket = not-true _ u.0;
      open_brace = not-true _ v.0;
      close_brace = not-true _ w.0;
      space = not-true _ w.1;
    }

abbrev AreBland : List ℕ → Type 0
AreBland [] = ⊤
AreBland (b ∷ bs) = (is_bland b ≡ true) × AreBland bs

bland_quiet : (b k : ℕ) → Bland b → is_quiet b (outside_at (suc k)) ≡ true
bland_quiet b k h = rw (h.comma, h.colon) refl

bland_step : (b l : ℕ) → Bland b → step b (outside_at l) ≡ outside_at l
bland_step b l h = rw (h.quote, h.backslash, h.open_brace, h.open_bracket, h.close_brace, h.close_bracket) refl

bland_runs : (ys : List ℕ) (k : ℕ) → AreBland ys → Runs (outside_at (suc k)) ys (outside_at (suc k))
bland_runs [] k h = refl
bland_runs (b ∷ bs) k h =
    let is = bland b h.0 in
    (bland_quiet b k is, subst (λ s. Runs s bs (outside_at (suc k))) (sym (bland_step b (suc k) is)) (bland_runs bs k h.1))

-- ---- digits

bland_digit : (b : ℕ) → 48 ≤ b → b < 58 → is_bland b ≡ true
bland_digit b low high =
    rw (
      ne_eqb b 34 (λ e. omega arith),
      ne_eqb b 44 (λ e. omega arith),
      ne_eqb b 58 (λ e. omega arith),
      ne_eqb b 91 (λ e. omega arith),
      ne_eqb b 92 (λ e. omega arith),
      ne_eqb b 93 (λ e. omega arith),
      ne_eqb b 123 (λ e. omega arith),
      ne_eqb b 125 (λ e. omega arith),
      ne_eqb b 32 (λ e. omega arith),
      ne_eqb b 9 (λ e. omega arith),
      ne_eqb b 10 (λ e. omega arith),
      ne_eqb b 13 (λ e. omega arith),
    ) refl

bland_glyph : (n : ℕ) → is_bland (digit_glyph false (n % 10)) ≡ true
bland_glyph n =
    let small : n % 10 < 10 = omega arith in
    ap (λ b. is_bland (cond b (48 + n % 10) (cond false (55 + n % 10) (87 + n % 10)))) (lt-ltb (n % 10) 10 small) ∙ bland_digit (48 + n % 10) (omega arith) (omega arith)

-- bytes that are bland, and there is one
record Number (ys : List ℕ) : Type 0 where
  bytes : AreBland ys
  some : ys ≢ []

cons_some : (x : ℕ) (xs : List ℕ) → x ∷ xs ≢ []
cons_some x xs e = cc

either : (b : Bool) (xs ys : List ℕ) → Number xs → Number ys → Number (cond b xs ys)
either true xs ys h k = h
either false xs ys h k = k

number_digits : (k n x : ℕ) (acc : List ℕ) → AreBland (x ∷ acc) → Number (digits_onto k 10 false n (x ∷ acc))
number_digits zero n x acc h = record { bytes = h; some = cons_some x acc }
number_digits (suc k) n x acc h =
    let d = digit_glyph false (n % 10) in
    let more : AreBland (d ∷ x ∷ acc) = (bland_glyph n, h) in
    either (eqb (n / 10) 0) (d ∷ x ∷ acc) _ (record { bytes = more; some = cons_some d (x ∷ acc) }) (number_digits k (n / 10) d (x ∷ acc) more)

number_decimal : (n : ℕ) → Number (decimal n)
unfolding digits
number_decimal n =
    let d = digit_glyph false (n % 10) in
    let one : AreBland (d ∷ []) = (bland_glyph n, tt) in
    either (eqb (n / 10) 0) (d ∷ []) _ (record { bytes = one; some = cons_some d [] }) (number_digits 63 (n / 10) d [] one)

number_number : (n : Num) → is_float n ≡ false → Number (number_text n)
number_number (unsigned n) h = number_decimal n
number_number (negative (pos n)) h = number_decimal n
number_number (negative (negsuc n)) h = record { bytes = (refl, (number_decimal (suc n)).bytes); some = cons_some _ _ }
number_number (float x) h = absurd (false≢true (sym h))

-- ---- strings

abbrev inside_at : Bool → ℕ → State
inside_at escaped l = record { inside = true; escaped = escaped; level = l }

-- no byte ends the string, and none is left escaped
abbrev stays : Bool → List ℕ → Bool
stays e [] = not e
stays e (b ∷ bs) = not (eqb b 34 && not e) && stays (eqb b 92 && not e) bs

stays_on : (ys zs : List ℕ) (e : Bool) → stays e ys ≡ true → stays false zs ≡ true → stays e (ys ++ zs) ≡ true
stays_on [] zs e h k = ap (λ f. stays f zs) (not-true e h) ∙ k
stays_on (b ∷ bs) zs e h k = let p = and_parts _ _ h in and_from _ _ p.0 (stays_on bs zs (eqb b 92 && not e) p.1 k)

stays_runs : (ys : List ℕ) (e : Bool) (k : ℕ) → stays e ys ≡ true → Runs (inside_at e (suc k)) ys (inside_at false (suc k))
stays_runs [] e k h = ap (λ f. inside_at f (suc k)) (not-true e h)
stays_runs (b ∷ bs) e k h =
    let p = and_parts _ _ h in
    let here : inside_at (eqb b 92 && not e) (suc k) ≡ step b (inside_at e (suc k)) = λ j. record { inside = cond (sym (not-true (eqb b 34 && not e) p.0) j) false true; escaped = eqb b 92 && not e; level = suc k } in
    (refl, subst (λ s. Runs s bs (inside_at false (suc k))) here (stays_runs bs (eqb b 92 && not e) k p.1))

abbrev escapes_stay : ℕ → Bool
escapes_stay zero = true
escapes_stay (suc n) = stays false (escape_byte n) && escapes_stay n

escape_below : (n : ℕ) → escapes_stay n ≡ true → (x : ℕ) → x < n → stays false (escape_byte x) ≡ true
escape_below zero e x h = absurd (omega arith)
escape_below (suc n) e x h =
    let p = and_parts _ _ e in
    elim (cases_eq x n) [ inl same ↦ ap (λ m. stays false (escape_byte m)) same ∙ p.0 | inr other ↦ escape_below n p.1 x (omega arith) ]

ascii_stays : escapes_stay 128 ≡ true
unfolding escape_byte
ascii_stays = refl

escape_stays : (x : ℕ) → stays false (escape_byte x) ≡ true
escape_stays x = elim (cases_lt x 128) [
  | inl small ↦ escape_below 128 ascii_stays x small
  | inr big ↦
      ap (stays false) (escape_byte_plain x (λ e. omega arith) (λ e. omega arith) (omega arith))
      ∙ rw (ne_eqb x 34 (λ e. omega arith), ne_eqb x 92 (λ e. omega arith)) refl
]

text_stays : (s : List ℕ) → stays false (escape s) ≡ true
text_stays [] = refl
text_stays (x ∷ s) = stays_on (escape_byte x) (escape s) false (escape_stays x) (text_stays s)

pub quoted_runs : (s : List ℕ) (k : ℕ) → Runs (outside_at (suc k)) (quoted s) (outside_at (suc k))
quoted_runs s k = (refl, runs_on (escape s) (34 ∷ []) (inside_at false (suc k)) (inside_at false (suc k)) (outside_at (suc k)) (stays_runs (escape s) false k (text_stays s)) (refl, refl))

-- ---- values

comma_runs : (later : Bool) (k : ℕ) → Runs (outside_at (suc (suc k))) (comma_if later) (outside_at (suc (suc k)))
comma_runs true k = (refl, refl)
comma_runs false k = refl

mutual
  pub value_runs : (d : Data) (k : ℕ) → has_float d ≡ false → Runs (outside_at (suc k)) (compact_text d) (outside_at (suc k))
  value_runs null k h = bland_runs (compact_text null) k (refl, (refl, (refl, (refl, tt))))
  value_runs (boolean true) k h = bland_runs (compact_text (boolean true)) k (refl, (refl, (refl, (refl, tt))))
  value_runs (boolean false) k h = bland_runs (compact_text (boolean false)) k (refl, (refl, (refl, (refl, (refl, tt)))))
  value_runs (number n) k h = bland_runs (number_text n) k (number_number n h).bytes
  value_runs (string s) k h = quoted_runs s k
  value_runs (array ds) k h = (refl, items_run false ds k h)
  value_runs (object ms) k h = (refl, members_run false ms k h)

  items_run : (later : Bool) (ds : Items) (k : ℕ) → items_have_float ds ≡ false → Runs (outside_at (suc (suc k))) (items_text later ds) (outside_at (suc k))
  items_run later no_items k h = (refl, refl)
  items_run later (item d ds) k h =
      let p = or_parts (has_float d) _ h in
      let l = outside_at (suc (suc k)) in
      runs_on (comma_if later) (compact_text d ++ items_text true ds) l l (outside_at (suc k)) (comma_runs later k)
      (runs_on (compact_text d) (items_text true ds) l l (outside_at (suc k)) (value_runs d (suc k) p.0) (items_run true ds k p.1))

  members_run : (later : Bool) (ms : Members) (k : ℕ) → members_have_float ms ≡ false → Runs (outside_at (suc (suc k))) (members_text later ms) (outside_at (suc k))
  members_run later no_members k h = (refl, refl)
  members_run later (member name d ms) k h =
      let p = or_parts (has_float d) _ h in
      let l = outside_at (suc (suc k)) in
      let u = outside_at (suc k) in
      runs_on (comma_if later) (quoted name ++ 58 ∷ (compact_text d ++ members_text true ms)) l l u (comma_runs later k)
      (runs_on (quoted name) (58 ∷ (compact_text d ++ members_text true ms)) l l u (quoted_runs name (suc k))
      (refl, runs_on (compact_text d) (members_text true ms) l l u (value_runs d (suc k) p.0) (members_run true ms k p.1)))

-- ---- no space at the ends

pub record Ends (ys : List ℕ) : Type 0 where
  pub front : List ℕ
  pub last : ℕ
  pub is : ys ≡ front ++ last ∷ []
  pub solid : is_space last ≡ false

pub ends_on : (zs ys : List ℕ) → Ends ys → Ends (zs ++ ys)
ends_on zs ys h = record { front = zs ++ h.front; last = h.last; is = ap (λ l. zs ++ l) h.is ∙ sym (append_assoc zs h.front (h.last ∷ [])); solid = h.solid }

ends_with : (b : ℕ) → is_space b ≡ false → Ends (b ∷ [])
ends_with b h = record { front = []; last = b; is = refl; solid = h }

ends_bland : (ys : List ℕ) → AreBland ys → ys ≢ [] → Ends ys
ends_bland [] h some = absurd (some refl)
ends_bland (b ∷ []) h some = ends_with b (bland b h.0).space
ends_bland (b ∷ c ∷ bs) h some = ends_on (b ∷ []) (c ∷ bs) (ends_bland (c ∷ bs) h.1 (cons_some c bs))

begins_bland : (ys : List ℕ) → AreBland ys → prefix_len is_space ys ≡ 0
begins_bland [] h = refl
begins_bland (b ∷ bs) h = rw (bland b h.0).space refl

no_spaces_after : (ys : List ℕ) → Ends ys → suffix_len is_space ys ≡ 0
no_spaces_after ys h =
    ap (suffix_len is_space) h.is ∙ ap (prefix_len is_space) (reverse-append h.front (h.last ∷ []))
    ∙ ap (λ b. cond b (1 + prefix_len is_space (reverse h.front)) 0) h.solid

-- No space stands at either end.
pub trimmed_solid : (ys : List ℕ) → prefix_len is_space ys ≡ 0 → Ends ys → trimmed ys ≡ ys
unfolding trimmed
trimmed_solid ys first h =
    ap (λ n. without_spaces_after (drop n ys)) first
    ∙ ap (λ n. take (length ys - n) ys) (no_spaces_after ys h)
    ∙ take_all (length ys - 0) ys (omega arith)

items_end : (later : Bool) (ds : Items) → Ends (items_text later ds)
items_end later no_items = ends_with 93 refl
items_end later (item d ds) = ends_on (comma_if later) _ (ends_on (compact_text d) _ (items_end true ds))

pub members_end : (later : Bool) (ms : Members) → Ends (members_text later ms)
members_end later no_members = ends_with 125 refl
members_end later (member name d ms) = ends_on (comma_if later) _ (ends_on (quoted name) _ (ends_on (58 ∷ []) _ (ends_on (compact_text d) _ (members_end true ms))))

pub trimmed_value : (d : Data) → has_float d ≡ false → trimmed (compact_text d) ≡ compact_text d
trimmed_value null h = trimmed_solid (compact_text null) refl (ends_bland (compact_text null) (refl, (refl, (refl, (refl, tt)))) (cons_some _ _))
trimmed_value (boolean true) h = trimmed_solid (compact_text (boolean true)) refl (ends_bland (compact_text (boolean true)) (refl, (refl, (refl, (refl, tt)))) (cons_some _ _))
trimmed_value (boolean false) h = trimmed_solid (compact_text (boolean false)) refl (ends_bland (compact_text (boolean false)) (refl, (refl, (refl, (refl, (refl, tt))))) (cons_some _ _))
trimmed_value (number n) h = let num = number_number n h in trimmed_solid (number_text n) (begins_bland (number_text n) num.bytes) (ends_bland (number_text n) num.bytes num.some)
trimmed_value (string s) h = trimmed_solid (quoted s) refl (ends_on (34 ∷ escape s) (34 ∷ []) (ends_with 34 refl))
trimmed_value (array ds) h = trimmed_solid (compact_text (array ds)) refl (ends_on (91 ∷ []) (items_text false ds) (items_end false ds))
trimmed_value (object ms) h = trimmed_solid (compact_text (object ms)) refl (ends_on (123 ∷ []) (members_text false ms) (members_end false ms))
