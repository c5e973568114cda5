-- What is there. No public clause cites this.
use Rattle.std.specs.Prelude.{◌≡◌, true, Option, None, Some, is_some}
use Rattle.std.proofs.lemmas.Bool.{false≢true}

abbrev pub present : {A : Type 0} (o : Option A) → is_some o ≡ true → A
present None there = absurd (false≢true there)
present (Some x) there = x
