-- Encoded texts that stand for themselves.
use Rattle.std.proofs.Common.{◌≡◌, ℕ, zero, suc, ◌<◌, true, List, [], ◌∷◌, slice_index, IsAscii, sym, ap, ◌∙◌, arith}
use Rattle.std.specs.List.{list_all, AllPass}
use Rattle.std.specs.Str.Lossy.{utf8_lossy}
use Rattle.std.proofs.lemmas.Bool.Decides.{nat_tests}
use Rattle.std.proofs.lemmas.List.Sums.{AllPass-from_list_all}
use Rattle.std.proofs.lemmas.List.Elements.{All-from_get_or, All-head, All-tail}
use Rattle.std.proofs.lemmas.Str.{IsUtf8-from_ascii, utf8_lossy-IsUtf8}
use Rattle.form_urlencoded.specs.Form.{decode, IsPlain}
use Rattle.form_urlencoded.proofs.FormLemmas.{decode_plain}
use Rattle.oidc_pairs.specs.Decoding.{is_plain_byte}

plain_low : (b : ℕ) → is_plain_byte b ≡ true → b < 128
plain_low b is = grind (arith, nat_tests, is)

plain_other : (b : ℕ) → is_plain_byte b ≡ true → IsPlain b
plain_other b is = (λ plus. grind (arith, nat_tests, is, plus), λ percent. grind (arith, nat_tests, is, percent))

low_at : (bs : List ℕ) → AllPass is_plain_byte bs → (i : ℕ) → slice_index bs i < 128
low_at [] each i = omega arith
low_at (b ∷ bs) each zero = plain_low b (All-head (λ x. is_plain_byte x ≡ true) b bs each)
low_at (b ∷ bs) each (suc i) = low_at bs (All-tail (λ x. is_plain_byte x ≡ true) b bs each) i

pub plain_ascii : (bs : List ℕ) → list_all is_plain_byte bs ≡ true → IsAscii bs
plain_ascii bs is = low_at bs (AllPass-from_list_all is_plain_byte bs is)

pub plain_text : (bs : List ℕ) → list_all is_plain_byte bs ≡ true → bs ≡ utf8_lossy (decode bs)
plain_text bs is =
    let each = AllPass-from_list_all is_plain_byte bs is in
    sym
    (ap utf8_lossy (decode_plain bs (All-from_get_or IsPlain bs 0 (λ i within. plain_other _ (each i 0 within))))
    ∙ utf8_lossy-IsUtf8 bs (IsUtf8-from_ascii bs (plain_ascii bs is)))
