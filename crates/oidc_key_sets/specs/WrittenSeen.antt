-- What the writer has of members that it appends. No public clause cites this.
use Rattle.std.specs.Prelude.{ℕ, List, map}
use Rattle.std.specs.Borrow.{Bor}
use Rattle.json.specs.Value.{value_view}
use Rattle.json.specs.declared.value.Value.{Value}
use Rattle.oidc_key_sets.specs.Written.{Named}

-- their names and their values
abbrev pub named_values : {A : Type 0} → List (Bor (List ℕ) × Value A) → List Named
named_values members = map (λ m. (m.0.now, value_view m.1)) members
