-- Pairs that are still encoded.
use Rattle.std.proofs.Common.{◌≡◌, ℕ, List, map, refl}
use Rattle.form_urlencoded.specs.Form.{raw_pairs}
use Rattle.oidc_pairs.specs.Pairs.{text_of, pairs}

-- what encoded pairs stand for
abbrev pub decoded : List (List ℕ × List ℕ) → List (List ℕ × List ℕ)
decoded raw = map (λ p. (text_of p.0, text_of p.1)) raw

pub decoded-raw_pairs : (text : List ℕ) → decoded (raw_pairs text) ≡ pairs text
unfolding pairs
decoded-raw_pairs text = refl
