use Rattle.std.proofs.Common.{◌≡◌, ◌++◌, drop}
use Rattle.std.specs.Prelude.{option_map}
use Rattle.json.specs.Value.{items_view}
use Rattle.oidc_key_sets.specs.Keys.{texts_in}
use Rattle.oidc_key_sets.proofs.members.texts_in.Given as goal

abbrev pub invariant-loop-value : goal.invariant-loop-value
invariant-loop-value l =
    texts_in (items_view l.values)
    ≡ option_map (λ rest. l.texts.items ++ rest) (texts_in (items_view (drop l.value-index l.values)))
