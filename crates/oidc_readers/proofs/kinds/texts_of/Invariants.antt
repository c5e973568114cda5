use Rattle.std.proofs.Common.{◌≡◌, ◌++◌, drop}
use Rattle.std.specs.Prelude.{option_map}
use Rattle.serde_json.specs.View.{items_view}
use Rattle.oidc_readers.specs.Kinds.{texts_in}
use Rattle.oidc_readers.proofs.kinds.texts_of.Given as goal

abbrev pub invariant-loop-value : goal.invariant-loop-value
invariant-loop-value g l = texts_in (items_view l.values) ≡ option_map (λ rest. l.texts.items ++ rest) (texts_in (items_view (drop l.value-index l.values)))
