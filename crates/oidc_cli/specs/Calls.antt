-- The calls of an object outside the program: which fail, and how they are counted.
use Rattle.std.specs.Prelude.{ℕ, ◌==◌, ◌+◌, ◌-◌, ◌^◌, min, Bool, List, refl}
use Rattle.std.specs.List.{list_any}
pub use Rattle.oidc_oauth2.specs.Transport.{HasRisen}
use Rattle.std.specs.Coded.{Coded, code_by, coded_ℕ, coded_list, coded×}

-- a count after one more; it stops at its last value
abbrev pub risen : ℕ → ℕ
risen count = min (count + 1) (2 ^ 64 - 1)

-- an object of std, and how many of its calls failed
pub record SeenCounted (T : Type 0) : Type 0 where
  pub inner : T
  pub faults : ℕ

-- ---- objects in memory

-- the numbers of the calls that fail, counted from 1; how many calls were made; and how many of them failed
pub record SeenCalls : Type 0 where
  pub failing : List ℕ
  pub made : ℕ
  pub faults : ℕ

-- no call was made yet, and the calls with these numbers are to fail
abbrev pub no_calls : List ℕ → SeenCalls
no_calls failing = record { failing = failing; made = 0; faults = 0 }

-- the next call is one of those that fail
abbrev pub fails_next : SeenCalls → Bool
fails_next calls = list_any (λ number. number == calls.made + 1) calls.failing

-- after one call more that succeeded, and after one that failed
abbrev pub after_success : SeenCalls → SeenCalls
after_success calls = record calls { made = risen calls.made }

abbrev pub after_fault : SeenCalls → SeenCalls
after_fault calls = record calls { made = risen calls.made; faults = risen calls.faults }

-- how the logic stores it; no clause cites it
abbrev pub calls_code : Coded SeenCalls
calls_code =
    code_by (List ℕ × (ℕ × ℕ)) (coded× (coded_list coded_ℕ) (coded× coded_ℕ coded_ℕ))
    (λ c. (c.failing, (c.made, c.faults)))
    (λ p. record { failing = p.0; made = p.1.0; faults = p.1.1 }) (λ _. refl)
