-- The leftmost bits of an octet.
use Rattle.std.proofs.Common.{◌≡◌, ℕ, zero, suc, ◌-◌, ◌/◌, ◌%◌, ◌^◌, ◌<◌, ◌≤◌, ◌⊎◌, inl, inr, leb, ltb, refl, ap, sym, ◌∙◌, arith}
use Rattle.std.proofs.lemmas.Bool.{cases_lt, lt-ltb, le-ltb, le-leb, lt-leb}
use Rattle.std.proofs.lemmas.Nat.{and_mask, pow_pos}
use Rattle.std.specs.Int.RustNames.{bit_and}

-- the octet whose leftmost bits alone are zero
pub ones : (count : ℕ) → count < 8 → 255 / 2 ^ count ≡ 2 ^ (8 - count) - 1
ones zero h = refl
ones (suc zero) h = refl
ones (suc (suc zero)) h = refl
ones (suc (suc (suc zero))) h = refl
ones (suc (suc (suc (suc zero)))) h = refl
ones (suc (suc (suc (suc (suc zero))))) h = refl
ones (suc (suc (suc (suc (suc (suc zero)))))) h = refl
ones (suc (suc (suc (suc (suc (suc (suc zero))))))) h = refl
ones (suc (suc (suc (suc (suc (suc (suc (suc count)))))))) h = absurd (omega arith)

pub kept : (octet count : ℕ) → count < 8 → bit_and octet (255 / 2 ^ count) ≡ octet % 2 ^ (8 - count)
kept octet count h = ap (bit_and octet) (ones count h) ∙ and_mask octet (8 - count)

-- an octet that is at most the ones has zeros before them
pub zeros_before : (octet count : ℕ) → count < 8 → leb octet (255 / 2 ^ count) ≡ ltb octet (2 ^ (8 - count))
zeros_before octet count h = by_size (cases_lt octet (2 ^ (8 - count)))
  where
    by_size : (octet < 2 ^ (8 - count)) ⊎ (2 ^ (8 - count) ≤ octet) → leb octet (255 / 2 ^ count) ≡ ltb octet (2 ^ (8 - count))
    by_size (inl below) =
        let within : octet ≤ 255 / 2 ^ count = omega (arith, ones count h) in
        le-leb octet (255 / 2 ^ count) within ∙ sym (lt-ltb octet (2 ^ (8 - count)) below)
    by_size (inr above) =
        let beyond : 255 / 2 ^ count < octet = omega (arith, ones count h, pow_pos (8 - count)) in
        lt-leb octet (255 / 2 ^ count) beyond ∙ sym (le-ltb octet (2 ^ (8 - count)) above)
