use Rattle.std.proofs.Common.{◌≡◌, ◌++◌, map, drop}
use Rattle.json.specs.Value.{value_view}
use Rattle.oidc_key_sets.specs.Written.{written_key}
use Rattle.oidc_key_sets.proofs.writing.keys_value.Given as goal

abbrev pub invariant-loop-key : goal.invariant-loop-key
invariant-loop-key l = map written_key l.keys ≡ map value_view l.values.items ++ map written_key (drop l.key-index l.keys)
