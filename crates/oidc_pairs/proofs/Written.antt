-- The table of the bytes that a form writes, checked entry by entry.
use Rattle.std.proofs.Common.{◌≡◌, ◌≢◌, ℕ, zero, suc, ◌<◌, ◌==◌, Bool, true, cond, ◌&&◌, List, [], ◌∷◌, get_or, refl, sym}
use Rattle.std.specs.Str.{bytes_eq}
use Rattle.std.proofs.lemmas.Bool.{ne_eqb}
use Rattle.std.proofs.lemmas.Bool.Decides.{Decides-below_and}
use Rattle.std.proofs.lemmas.Slice.Eq.{bytes_eq-Decides}
use Rattle.percent_encoding.specs.Percent.{percent_encode_byte}
use Rattle.form_urlencoded.specs.Form.{serialize_byte}
use Rattle.oidc_pairs.specs.declared.escape.TheConstants.{WRITTEN}

abbrev written : ℕ → ℕ
written b = get_or WRITTEN b 0

abbrev entry : ℕ → List ℕ
entry b = cond (written b == 37) (percent_encode_byte b) (written b ∷ [])

abbrev entries_match : ℕ → Bool
entries_match zero = true
entries_match (suc n) = bytes_eq (entry n) (serialize_byte n) && entries_match n

entries_checked : entries_match 256 ≡ true
unfolding percent_encode_byte
entries_checked = refl

matches : (b : ℕ) → b < 256 → entry b ≡ serialize_byte b
matches =
    (Decides-below_and (λ b. bytes_eq (entry b) (serialize_byte b)) (λ b. entry b ≡ serialize_byte b) entries_match (λ b. bytes_eq-Decides _ _) refl (λ _. refl) 256).0 entries_checked

-- a byte whose entry is a percent sign is escaped, and any other is written as its entry
pub escaped_entry : (b : ℕ) → b < 256 → written b ≡ 37 → percent_encode_byte b ≡ serialize_byte b
escaped_entry b low is = rw (sym (matches b low)) (rw is refl)

pub other_entry : (b : ℕ) → b < 256 → written b ≢ 37 → written b ∷ [] ≡ serialize_byte b
other_entry b low is = rw (sym (matches b low)) (rw (ne_eqb (written b) 37 is) refl)
