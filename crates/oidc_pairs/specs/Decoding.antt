-- What an escape is, behind its percent sign, and which bytes are plain. No clause of a public function cites it.
use Rattle.std.specs.Prelude.{◌≡◌, ℕ, ◌<◌, ◌==◌, ◌&&◌, not, nat_lt, Bool, List, ◌∷◌, length, Option, MatchOption}
use Rattle.std.specs.Borrow.{Bor}
use Rattle.form_urlencoded.specs.Form.{decode}

-- the byte is ASCII, and neither a percent sign nor a plus sign
abbrev pub is_plain_byte : ℕ → Bool
is_plain_byte b = nat_lt b 128 && not (b == 37) && not (b == 43)

-- the byte of the escape that the bytes behind a percent sign end, and what stands behind them; or the
-- percent sign begins no escape and stands for itself
abbrev pub IsEscape : List ℕ → Option (ℕ × Bor (List ℕ)) → Type 0
IsEscape later found =
    MatchOption found (decode (37 ∷ later) ≡ 37 ∷ decode later)
    (λ r. (decode (37 ∷ later) ≡ r.0 ∷ decode r.1.now) × (length r.1.now < length later))
