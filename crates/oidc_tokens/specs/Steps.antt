-- One step after another, up to the first refusal.
use Rattle.std.specs.Prelude.{Result}
pub use Rattle.oidc_readers.specs.Records.{◌>>=◌}
use Rattle.oidc_readers.specs.Records.{◌>>=◌}

-- the same, by a name, as clauses have to write it
abbrev pub and_then : {A B E : Type 0} → Result A E → (A → Result B E) → Result B E
and_then first next = first >>= next
