use Rattle.std.proofs.Common.{◌≡◌, ◌≤◌, length, drop}
use Rattle.json.specs.Value.{items_view}
use Rattle.oidc_key_sets.specs.KeySets.{keys_from}
use Rattle.oidc_key_sets.proofs.Sets.{after}
use Rattle.oidc_key_sets.proofs.key_set.keys_of.Given as goal

-- the keys of the values that came, which are no more than these
abbrev pub invariant-loop-place : goal.invariant-loop-place
invariant-loop-place l = record {
  said : keys_from 0 (items_view l.values)
      ≡ after l.keys.items (keys_from l.place (items_view (drop l.place l.values)));
  count : length l.keys.items ≤ l.place;
}
