-- What a text reads as where it is a scalar that is known at sight.
use Rattle.std.proofs.Common.{◌≡◌, ℕ, suc, ◌+◌, ◌-◌, ◌<◌, ◌≤◌, Bool, true, false, cond, ◌&&◌, ◌||◌, ◌==◌, nat_lt, List, [], ◌∷◌, ◌++◌, length, drop, get_or, Option, Some, option_map, option_and_then, refl, sym, ap, ap₂, ◌∙◌, subst, arith, append_assoc, drop-cons, drop-drop}
use Rattle.std.specs.List.{prefix_len, list_all, slice_range}
use Rattle.std.specs.Char.{is_ascii_digit}
use Rattle.std.specs.Str.{IsUtf8}
use Rattle.std.proofs.lemmas.Bool.{and_parts, or_parts, not-true, ne_eqb, leb-true, ltb-true, ltb-false}
use Rattle.std.proofs.lemmas.List.{take-append-drop, drop_all}
use Rattle.std.proofs.lemmas.Str.{IsUtf8-append}
use Rattle.json.specs.Token.{Token}
use Rattle.json.specs.Text.{content, plain, prepend}
use Rattle.json.specs.Word.{is_operator, is_space as is_json_space, word, after_number, after_digits, after_fraction, after_exponent}
use Rattle.json.specs.Lex.{Lexeme, token, Mode, operator, space, other, string_token, lex, lex_byte, between, in_string, fresh, punctuate}
use Rattle.json.specs.Json as json
use Rattle.json.specs.Print.{IsNumber}
use Rattle.json.proofs.Grammar.{value_is}
use Rattle.json.proofs.Printed.Numbers.{lex-number, in_word-ended}
use Rattle.serde_json.specs.Data.{Data, null, boolean, Num, number, string}
use Rattle.serde_json.specs.Read.{read, of_json, number_of, number_from}
use Rattle.fast_float.specs.Text.{scan}
use Rattle.std.specs.Prelude.{codes}
use Rattle.oidc_members.specs.Objects.{is_space}
use Rattle.oidc_members.specs.Sight.{is_plain, ReadsAs}
use Rattle.oidc_members.proofs.BytesRead.{value_read}
use Rattle.oidc_members.proofs.Blank.{Around, around, lex_lead, lex_trail, trail_ends, around_utf8, passed_utf8, quote_utf8}

-- ---- from lexemes to the value

abbrev pub whole : Option (json.Json × List Token) → Option Data
whole o = option_and_then of_json (option_and_then (λ p. json.if_last p.0 p.1) o)

read_by : (bytes : List ℕ) (ls : List Lexeme) → lex between bytes ≡ ls → read bytes ≡ whole (json.value 127 (punctuate fresh ls))
read_by bytes ls e = ap (λ l. whole (json.value 127 (punctuate fresh l))) e

-- a text that is one lexeme, with white space around it
alone : (text : List ℕ) (ls : List Lexeme) → ((rest : List ℕ) → list_all is_space rest ≡ true → lex between (text ++ rest) ≡ ls)
    → (bytes : List ℕ) → Around bytes text → lex between bytes ≡ ls
alone text ls each bytes a = ap (lex between) a.whole ∙ lex_lead a.lead (text ++ a.trail) a.before ∙ each a.trail a.after

pub reads : (text : List ℕ) (ls : List Lexeme) (d : Data) → IsUtf8 text
    → ((rest : List ℕ) → list_all is_space rest ≡ true → lex between (text ++ rest) ≡ ls)
    → whole (json.value 127 (punctuate fresh ls)) ≡ Some d → ReadsAs text d
reads text ls d utf8 each is bytes e =
    let a : Around bytes text = subst (Around bytes) e (around bytes) in
    value_read bytes d (around_utf8 bytes text a utf8) (read_by bytes ls (alone text ls each bytes a) ∙ is)

-- ---- strings of plain bytes

record Plain (x : ℕ) : Type 0 where
  control : nat_lt x 32 ≡ false
  quote : (x == 34) ≡ false
  backslash : (x == 92) ≡ false

plain_facts : (x : ℕ) → is_plain x ≡ true → Plain x
plain_facts x h =
    let none = or_parts (nat_lt x 32 || x == 34) (x == 92) (not-true (nat_lt x 32 || x == 34 || x == 92) h) in
    let first = or_parts (nat_lt x 32) (x == 34) none.0 in
    record { control = first.0; quote = first.1; backslash = none.1 }

pub content_plain : (s rest : List ℕ) → list_all is_plain s ≡ true → content plain (s ++ 34 ∷ rest) ≡ Some s
unfolding content
content_plain [] rest h = refl
content_plain (x ∷ xs) rest h =
    let parts = and_parts (is_plain x) (list_all is_plain xs) h in
    let f = plain_facts x parts.0 in
    rw (f.quote, f.backslash, f.control) (ap (prepend (x ∷ [])) (content_plain xs rest parts.1))

passes : (o s : Bool) (x : ℕ) (xs : List ℕ) (k : Mode → List Lexeme) → lex_byte in_string (cond o operator (cond s space other)) x xs k ≡ k in_string
passes true s x xs k = refl
passes false true x xs k = refl
passes false false x xs k = refl

pub lex_plain : (s rest : List ℕ) → list_all is_plain s ≡ true → lex in_string (s ++ 34 ∷ rest) ≡ lex between rest
unfolding lex
lex_plain [] rest h = refl
lex_plain (x ∷ xs) rest h =
    let parts = and_parts (is_plain x) (list_all is_plain xs) h in
    let f = plain_facts x parts.0 in
    let ys : List ℕ = xs ++ 34 ∷ rest in
    rw (f.quote, f.backslash) (passes (is_operator x) (is_json_space x) x ys (λ m. lex m ys)) ∙ lex_plain xs rest parts.1

string_lexed : (s : List ℕ) → list_all is_plain s ≡ true → (rest : List ℕ) → list_all is_space rest ≡ true
    → lex between ((34 ∷ (s ++ 34 ∷ [])) ++ rest) ≡ token (Token.string s) ∷ []
unfolding lex
string_lexed s h rest blank =
    ap (λ l. lex between (34 ∷ l)) (append_assoc s (34 ∷ []) rest)
    ∙ ap₂ (λ o l. token (string_token o) ∷ l) (content_plain s rest h) (lex_plain s rest h ∙ lex_trail rest blank)

pub string_reads : (text s : List ℕ) → text ≡ 34 ∷ (s ++ 34 ∷ []) → list_all is_plain s ≡ true → IsUtf8 s → ReadsAs text (string s)
unfolding punctuate
string_reads text s e h utf8 =
    let quoted : List ℕ = 34 ∷ (s ++ 34 ∷ []) in
    let whole_utf8 : IsUtf8 quoted = IsUtf8-append (34 ∷ []) (s ++ 34 ∷ []) quote_utf8 (IsUtf8-append s (34 ∷ []) utf8 quote_utf8) in
    subst (λ t. ReadsAs t (string s)) (sym e) (reads quoted (token (Token.string s) ∷ []) (string s) whole_utf8 (string_lexed s h) (ap whole (value_is 127 (Token.string s ∷ []))))

pub framed_parts : (text : List ℕ) (a b : ℕ) → 2 ≤ length text → get_or text 0 0 ≡ a → get_or text (length text - 1) 0 ≡ b → text ≡ a ∷ (slice_range text 1 (length text - 1) ++ b ∷ [])
framed_parts text a b two first last =
    let n : ℕ = length text in
    let front : text ≡ get_or text 0 0 ∷ drop 1 text = drop-cons text 0 0 (omega arith) in
    let back : drop (n - 1) text ≡ get_or text (n - 1) 0 ∷ drop (suc (n - 1)) text = drop-cons text (n - 1) 0 (omega arith) in
    let none : drop (suc (n - 1)) text ≡ [] = drop_all (suc (n - 1)) text (omega arith) in
    let seam : drop ((n - 1) - 1) (drop 1 text) ≡ drop (n - 1) text =
    let same : 1 + ((n - 1) - 1) ≡ n - 1 = omega arith in
    drop-drop ((n - 1) - 1) 1 text ∙ ap (λ k. drop k text) same in
    front ∙ ap₂ (λ x xs. x ∷ xs) first (sym (take-append-drop ((n - 1) - 1) (drop 1 text)) ∙ ap (λ ys. slice_range text 1 (n - 1) ++ ys) (seam ∙ back ∙ ap₂ (λ x xs. x ∷ xs) last none))

-- ---- whole numbers

digit_facts : (x : ℕ) → is_ascii_digit x ≡ true → (x == 45) ≡ false
digit_facts x h = ne_eqb x 45 (λ e. omega (arith, leb-true 48 x (and_parts _ _ h).0))

digits_len : (s : List ℕ) → list_all is_ascii_digit s ≡ true → prefix_len is_ascii_digit s ≡ length s
digits_len [] h = refl
digits_len (x ∷ xs) h =
    let parts = and_parts (is_ascii_digit x) (list_all is_ascii_digit xs) h in
    let rest = digits_len xs parts.1 in
    rw parts.0 (omega (arith, rest))

many_digits : (s : List ℕ) → list_all is_ascii_digit s ≡ true → 0 < length s → after_digits s ≡ Some []
many_digits s h some =
    let n = digits_len s h in
    let not_none : (length s == 0) ≡ false = ne_eqb (length s) 0 (λ e. omega arith) in
    rw n (rw not_none (ap Some (drop_all (length s) s (omega arith))))

-- digits, with no zero before another
pub IsNumber-digits : (s : List ℕ) → list_all is_ascii_digit s ≡ true → 0 < length s → (get_or s 0 0 == 48 && nat_lt 1 (length s)) ≡ false → IsNumber s
unfolding after_number
IsNumber-digits [] h some lone = absurd (omega arith)
IsNumber-digits (x ∷ xs) h some lone =
    let parts = and_parts (is_ascii_digit x) (list_all is_ascii_digit xs) h in
    let at : (b : Bool) → (x == 48) ≡ b → option_and_then after_exponent (option_and_then after_fraction (cond b (Some xs) (after_digits (x ∷ xs)))) ≡ Some [] =
    λ b. elim b as (λ b. (x == 48) ≡ b → option_and_then after_exponent (option_and_then after_fraction (cond b (Some xs) (after_digits (x ∷ xs)))) ≡ Some []) [
      | true ↦ λ e. let none : xs ≡ [] = drop_all 0 xs (omega (arith, ltb-false 1 (length (x ∷ xs)) (sym (ap (λ b. b && nat_lt 1 (length (x ∷ xs))) e) ∙ lone))) in rw none refl
      | false ↦ λ e. rw (many_digits (x ∷ xs) h some) refl
    ] in
    rw (digit_facts x parts.0) (at (x == 48) refl)

digits_utf8 : (s : List ℕ) → list_all is_ascii_digit s ≡ true → IsUtf8 s
digits_utf8 = passed_utf8 is_ascii_digit (λ x h. omega (arith, leb-true x 57 (and_parts _ _ h).1))

pub number_reads : (s : List ℕ) (n : Num) → list_all is_ascii_digit s ≡ true → IsNumber s → number_of s ≡ Some n → ReadsAs s (number n)
unfolding punctuate
number_reads s n h is value =
    reads s (token (Token.number s) ∷ []) (number n) (digits_utf8 s h)
    (λ rest blank. lex-number s rest is (trail_ends rest blank) ∙ ap (λ l. token (Token.number s) ∷ l) (lex_trail rest blank))
    (ap whole (value_is 127 (Token.number s ∷ [])) ∙ ap (option_map number) value)

pub number_of-digits : (s : List ℕ) (o : Option Num) → list_all is_ascii_digit s ≡ true → 0 < length s → number_from false (scan s) ≡ o → number_of s ≡ o
unfolding number_of
number_of-digits [] o h some e = absurd (omega arith)
number_of-digits (x ∷ xs) o h some e =
    let parts = and_parts (is_ascii_digit x) (list_all is_ascii_digit xs) h in
    rw (digit_facts x parts.0) e

-- ---- the three words

pub word_utf8 : (s : List ℕ) → list_all (λ x. nat_lt x 128) s ≡ true → IsUtf8 s
word_utf8 = passed_utf8 (λ x. nat_lt x 128) (λ x h. ltb-true x 128 h)

pub true_reads : ReadsAs (codes "true") (boolean true)
unfolding lex word punctuate
true_reads =
    reads (codes "true") (token (Token.boolean true) ∷ []) (boolean true) (word_utf8 (codes "true") refl)
    (λ rest blank. let ended = trail_ends rest blank in ap₂ (λ b l. token (cond b (Token.boolean true) Token.bad) ∷ l) ended (in_word-ended rest ended ∙ lex_trail rest blank))
    (ap whole (value_is 127 (Token.boolean true ∷ [])))

pub false_reads : ReadsAs (codes "false") (boolean false)
unfolding lex word punctuate
false_reads =
    reads (codes "false") (token (Token.boolean false) ∷ []) (boolean false) (word_utf8 (codes "false") refl)
    (λ rest blank. let ended = trail_ends rest blank in ap₂ (λ b l. token (cond b (Token.boolean false) Token.bad) ∷ l) ended (in_word-ended rest ended ∙ lex_trail rest blank))
    (ap whole (value_is 127 (Token.boolean false ∷ [])))

pub null_reads : ReadsAs (codes "null") null
unfolding lex word punctuate
null_reads =
    reads (codes "null") (token Token.null ∷ []) null (word_utf8 (codes "null") refl)
    (λ rest blank. let ended = trail_ends rest blank in ap₂ (λ b l. token (cond b Token.null Token.bad) ∷ l) ended (in_word-ended rest ended ∙ lex_trail rest blank))
    (ap whole (value_is 127 (Token.null ∷ [])))
