-- White space around a text, and what the lexer makes of it.
use Rattle.std.proofs.Common.{◌≡◌, ℕ, zero, suc, ◌+◌, ◌-◌, ◌<◌, Bool, true, false, cond, ◌&&◌, ◌||◌, ◌==◌, List, [], ◌∷◌, ◌++◌, length, take, drop, get_or, inl, inr, refl, sym, ap, ap₂, ◌∙◌, subst, arith, append-nil}
use Rattle.std.specs.Prelude.{reverse}
use Rattle.std.specs.List.{prefix_len, list_all}
use Rattle.std.specs.Str.{IsUtf8}
use Rattle.std.proofs.Math.Seq.{take-append_seam}
use Rattle.std.proofs.lemmas.Bool.{and_parts, or_cases, eqb-true}
use Rattle.std.proofs.lemmas.List.{take-append-drop, reverse-append, reverse-reverse, length-reverse, length-drop}
use Rattle.std.proofs.lemmas.List.Folds.{list_all-append}
use Rattle.std.proofs.lemmas.Str.{IsUtf8-nil, IsUtf8-append, IsUtf8-from_ascii}
use Rattle.json.specs.Word.{ends_word, is_operator}
use Rattle.json.specs.Lex.{space, class, lex, lex_byte, between}
use Rattle.oidc_members.specs.Objects.{is_space, trimmed}

-- the text stands in the bytes, with white space alone around it
pub record Around (bytes text : List ℕ) : Type 0 where
  pub lead : List ℕ
  pub trail : List ℕ
  pub whole : bytes ≡ lead ++ (text ++ trail)
  pub before : list_all is_space lead ≡ true
  pub after : list_all is_space trail ≡ true

pub prefix_passes : (p : ℕ → Bool) (xs : List ℕ) → list_all p (take (prefix_len p xs) xs) ≡ true
prefix_passes p [] = refl
prefix_passes p (x ∷ xs) = at (p x) refl (prefix_passes p xs)
  where
    at : (b : Bool) → p x ≡ b → list_all p (take (prefix_len p xs) xs) ≡ true → list_all p (take (cond b (1 + prefix_len p xs) 0) (x ∷ xs)) ≡ true
    at false e rest = refl
    at true e rest =
        let one : 1 + prefix_len p xs ≡ suc (prefix_len p xs) = omega arith in
        rw one (ap₂ (λ a b. a && b) e rest)

last_first : (a b : Bool) → (a && (b && true)) ≡ (b && a)
last_first true true = refl
last_first true false = refl
last_first false true = refl
last_first false false = refl

reverse_passes : (p : ℕ → Bool) (xs : List ℕ) → list_all p (reverse xs) ≡ list_all p xs
reverse_passes p [] = refl
reverse_passes p (x ∷ xs) =
    ap (list_all p) (reverse-append (x ∷ []) xs) ∙ list_all-append p (reverse xs) (x ∷ [])
    ∙ ap (λ b. b && (p x && true)) (reverse_passes p xs) ∙ last_first (list_all p xs) (p x)

pub around : (bytes : List ℕ) → Around bytes (trimmed bytes)
unfolding trimmed
around bytes =
    let n : ℕ = prefix_len is_space bytes in
    let x : List ℕ = drop n bytes in
    let ys : List ℕ = reverse x in
    let k : ℕ = prefix_len is_space ys in
    let kept : List ℕ = reverse (drop k ys) in
    let trail : List ℕ = reverse (take k ys) in
    let parts : x ≡ kept ++ trail = sym (reverse-reverse x) ∙ ap reverse (sym (take-append-drop k ys)) ∙ reverse-append (take k ys) (drop k ys) in
    let size : length kept ≡ length x - k = length-reverse (drop k ys) ∙ length-drop k ys ∙ ap (λ m. m - k) (length-reverse x) in
    let same : take (length x - k) x ≡ kept = ap (λ m. take m x) (sym size) ∙ ap (take (length kept)) parts ∙ take-append_seam kept trail in
    record {
      lead = take n bytes;
      trail = trail;
      whole = sym (take-append-drop n bytes) ∙ ap (λ zs. take n bytes ++ zs) (parts ∙ ap (λ zs. zs ++ trail) (sym same));
      before = prefix_passes is_space bytes;
      after = reverse_passes is_space (take k ys) ∙ prefix_passes is_space ys;
    }

space_is : (P : ℕ → Type 0) → P 32 → P 9 → P 10 → P 13 → (x : ℕ) → is_space x ≡ true → P x
space_is P at_space at_tab at_feed at_return x h =
    elim (or_cases (x == 32 || x == 9 || x == 10) (x == 13) h) [
      | inr e ↦ subst P (sym (eqb-true x 13 e)) at_return
      | inl r ↦ elim (or_cases (x == 32 || x == 9) (x == 10) r) [
        | inr e ↦ subst P (sym (eqb-true x 10 e)) at_feed
        | inl s ↦ elim (or_cases (x == 32) (x == 9) s) [
          | inl e ↦ subst P (sym (eqb-true x 32 e)) at_space
          | inr e ↦ subst P (sym (eqb-true x 9 e)) at_tab
        ]
      ]
    ]

space_class : (x : ℕ) → is_space x ≡ true → class x ≡ space
space_class = space_is (λ x. class x ≡ space) refl refl refl refl

pub lex_lead : (lead rest : List ℕ) → list_all is_space lead ≡ true → lex between (lead ++ rest) ≡ lex between rest
unfolding lex
lex_lead [] rest h = refl
lex_lead (x ∷ xs) rest h =
    let parts = and_parts (is_space x) (list_all is_space xs) h in
    ap (λ c. lex_byte between c x (xs ++ rest) (λ m. lex m (xs ++ rest))) (space_class x parts.0) ∙ lex_lead xs rest parts.1

pub lex_trail : (trail : List ℕ) → list_all is_space trail ≡ true → lex between trail ≡ []
unfolding lex
lex_trail trail h = ap (lex between) (sym (append-nil trail)) ∙ lex_lead trail [] h

or_true : (b : Bool) → (b || true) ≡ true
or_true true = refl
or_true false = refl

pub trail_ends : (trail : List ℕ) → list_all is_space trail ≡ true → ends_word trail ≡ true
trail_ends [] h = refl
trail_ends (x ∷ xs) h = ap (λ b. is_operator x || b) (and_parts (is_space x) (list_all is_space xs) h).0 ∙ or_true (is_operator x)

one_utf8 : (x : ℕ) → x < 128 → IsUtf8 (x ∷ [])
one_utf8 x lt = IsUtf8-from_ascii (x ∷ []) at
  where
    at : (i : ℕ) → get_or (x ∷ []) i 0 < 128
    at zero = lt
    at (suc i) = omega arith

-- where a test passes ASCII alone
pub passed_utf8 : (p : ℕ → Bool) → ((x : ℕ) → p x ≡ true → x < 128) → (s : List ℕ) → list_all p s ≡ true → IsUtf8 s
passed_utf8 p low [] h = IsUtf8-nil
passed_utf8 p low (x ∷ xs) h =
    let parts = and_parts (p x) (list_all p xs) h in
    IsUtf8-append (x ∷ []) xs (one_utf8 x (low x parts.0)) (passed_utf8 p low xs parts.1)

blank_utf8 : (blank : List ℕ) → list_all is_space blank ≡ true → IsUtf8 blank
blank_utf8 = passed_utf8 is_space (space_is (λ x. x < 128) (omega arith) (omega arith) (omega arith) (omega arith))

pub around_utf8 : (bytes text : List ℕ) → Around bytes text → IsUtf8 text → IsUtf8 bytes
around_utf8 bytes text a utf8 =
    subst IsUtf8 (sym a.whole) (IsUtf8-append a.lead (text ++ a.trail) (blank_utf8 a.lead a.before) (IsUtf8-append text a.trail utf8 (blank_utf8 a.trail a.after)))

pub quote_utf8 : IsUtf8 (34 ∷ [])
quote_utf8 = one_utf8 34 (omega arith)
