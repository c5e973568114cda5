-- What one pass over a text knows at a place.
use Rattle.std.specs.Prelude.{◌≡◌, ℕ, ◌+◌, ◌<◌, ◌≤◌, ◌==◌, ◌||◌, false, not, List, slice_index}
use Rattle.oidc_members.specs.declared.scan.Scan.{Scan}
use Rattle.oidc_members.specs.Places.{quote, backslash, is_even, backslashes, is_outside, opened, closed, level}

pub record IsAt (text : List ℕ) (i : ℕ) (scan : Scan) : Type 0 where
  pub outside : is_outside text i ≡ not scan.in_string
  pub escapes : is_even (backslashes text i) ≡ not scan.escaped
  pub level : closed text i + scan.level ≡ opened text i
  pub bound : scan.level ≤ i

-- neither a quote nor a backslash stands from one place up to another
abbrev pub ArePlain : List ℕ → ℕ → ℕ → Type 0
ArePlain text from to =
    (k : ℕ) → from ≤ k → k < to → (slice_index text k == quote || slice_index text k == backslash) ≡ false

-- From one place up to another all is inside a string, and the state stays.
pub record IsPassed (text : List ℕ) (i j : ℕ) (scan : Scan) : Type 0 where
  pub at : IsAt text j scan
  pub inside : (k : ℕ) → i ≤ k → k < j → is_outside text k ≡ false
  pub level : (k : ℕ) → i ≤ k → k < j → level text k ≡ scan.level
