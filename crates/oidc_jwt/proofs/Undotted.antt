-- Base64url text has no dot.
use Rattle.std.proofs.Common.{◌≡◌, ℕ, zero, suc, ◌==◌, List, [], ◌∷◌, Bool, true, false, not, refl, ap, ◌∙◌, append-nil, All, slice_index}
use Rattle.std.specs.Prelude.{◌+◌, ◌*◌, ◌/◌, ◌%◌}
use Rattle.std.specs.List.{list_all}
use Rattle.std.proofs.lemmas.Bool.{and_parts, and_from, false≢true}
use Rattle.std.proofs.lemmas.List.Elements.{All-weaker}
use Rattle.std.proofs.lemmas.List.Sums.{AllPass-from_list_all}
use Rattle.base64.specs.GeneralPurpose.{encode_of}
use Rattle.base64.specs.Engines.{url_safe_no_pad}
use Rattle.base64.specs.Rfc4648.{encode_symbols}

abbrev pub is_other : ℕ → Bool
is_other b = not (b == 46)

abbrev pub undotted : List ℕ → Bool
undotted text = list_all is_other text

-- each place of such a list, and past it
at_each : (t : List ℕ) → undotted t ≡ true → (i : ℕ) → is_other (slice_index t i) ≡ true
at_each [] h i = refl
at_each (x ∷ t) h zero = (and_parts (is_other x) (undotted t) h).0
at_each (x ∷ t) h (suc i) = at_each t (and_parts (is_other x) (undotted t) h).1 i

two : (a b : ℕ) (rest : List ℕ) → is_other a ≡ true → is_other b ≡ true → undotted rest ≡ true → undotted (a ∷ b ∷ rest) ≡ true
two a b rest p q r = and_from (is_other a) (undotted (b ∷ rest)) p (and_from (is_other b) (undotted rest) q r)

symbols : (t : List ℕ) → undotted t ≡ true → (m : List ℕ) → undotted (encode_symbols t m) ≡ true
unfolding encode_symbols
symbols t h [] = refl
symbols t h (a ∷ []) = two _ _ [] (at_each t h _) (at_each t h _) refl
symbols t h (a ∷ b ∷ []) =
    two _ _ (slice_index t ((b % 16) * 4) ∷ []) (at_each t h _) (at_each t h _) (and_from (is_other (slice_index t ((b % 16) * 4))) true (at_each t h ((b % 16) * 4)) refl)
symbols t h (a ∷ b ∷ c ∷ rest) =
    let third = (b % 16) * 4 + c / 64 in
    two _ _ (slice_index t third ∷ slice_index t (c % 64) ∷ encode_symbols t rest) (at_each t h _) (at_each t h _)
    (two (slice_index t third) (slice_index t (c % 64)) (encode_symbols t rest) (at_each t h third) (at_each t h (c % 64)) (symbols t h rest))

-- the alphabet of base64url
alphabet : undotted url_safe_no_pad.encode_table ≡ true
alphabet = refl

not_true : (x : Bool) → not x ≡ true → x ≡ false
not_true true e = absurd (false≢true e)
not_true false e = refl

no_dot : (b : ℕ) → is_other b ≡ true → (b == 46) ≡ false
no_dot b h = not_true (b == 46) h

pub encoding_undotted : (bytes : List ℕ) → All (λ b. (b == 46) ≡ false) (encode_of url_safe_no_pad bytes)
encoding_undotted bytes =
    All-weaker (λ b. is_other b ≡ true) (λ b. (b == 46) ≡ false) no_dot (encode_of url_safe_no_pad bytes)
    (AllPass-from_list_all is_other (encode_of url_safe_no_pad bytes)
    (ap undotted (append-nil (encode_symbols url_safe_no_pad.encode_table bytes)) ∙ symbols url_safe_no_pad.encode_table alphabet bytes))
