-- What readers of a line answer. No public clause cites this.
use Rattle.std.specs.Prelude.{◌≡◌, Option, None, Some, Result, Ok, Err}
use Rattle.oidc_cli.specs.declared.events.LineError.{LineError}
use Rattle.oidc_cli.specs.declared.events.LineError.TheVariants.{NoEvent, Memory}

-- what a reader answers is the value that is meant, but for want of memory
abbrev pub Reads : {A B : Type 0} → (A → B) → Result A LineError → Option B → Type 0
Reads view (Ok value) meant = meant ≡ Some (view value)
Reads view (Err NoEvent) meant = meant ≡ None
Reads view (Err Memory) meant = Unit {0}
