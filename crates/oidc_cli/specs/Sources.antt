-- Sources: what a call takes, and what contracts see of those in memory.
use Rattle.std.specs.Prelude.{◌≡◌, ℕ, List, ◌++◌, drop, Option, refl}
use Rattle.std.specs.Option.{option_map}
use Rattle.std.specs.Coded.{Coded, code_by, coded_ℕ, coded_list, coded×}
use Rattle.oidc_cli.specs.Calls.{SeenCalls, calls_code, after_success, after_fault}

-- These bytes were taken: what remained is the bytes, and then what remains now. What isn't known before
-- isn't known after, and what is known stays known.
abbrev pub Takes : Option (List ℕ) → Option (List ℕ) → List ℕ → Type 0
Takes before after bytes = before ≡ option_map (λ left. bytes ++ left) after

-- the bytes that are left, and the calls
pub record SeenSource : Type 0 where
  pub left : List ℕ
  pub calls : SeenCalls

-- after a call that took n bytes, and after one that failed
abbrev pub after_taking : SeenSource → ℕ → SeenSource
after_taking source n = record { left = drop n source.left; calls = after_success source.calls }

abbrev pub after_failing : SeenSource → SeenSource
after_failing source = record source { calls = after_fault source.calls }

-- how the logic stores it; no clause cites it
abbrev pub source_code : Coded SeenSource
source_code =
    code_by (List ℕ × SeenCalls) (coded× (coded_list coded_ℕ) calls_code)
    (λ s. (s.left, s.calls)) (λ p. record { left = p.0; calls = p.1 }) (λ _. refl)
