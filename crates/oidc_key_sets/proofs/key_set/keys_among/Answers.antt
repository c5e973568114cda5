use Rattle.std.proofs.Common.{◌≡◌, ◌∙◌, ap, sym, subst, arith, List, Result}
use Rattle.json.specs.Json.{array}
use Rattle.json.specs.Value.{value_view, items_view}
use Rattle.json.proofs.Trees.{view-Array}
use Rattle.oidc_key_sets.specs.declared.errors.KeySetError.{KeySetError}
use Rattle.oidc_key_sets.specs.Keys.{SeenRsaKey}
use Rattle.oidc_key_sets.specs.KeySets.{array_in, keys_from, UnlessMemory}
use Rattle.oidc_key_sets.proofs.Sets.{too_many, few_enough}
use Rattle.oidc_key_sets.proofs.key_set.keys_among.Goals as goal

pub returns-then-len-gt-MAX_KEYS : goal.returns-then-len-gt-MAX_KEYS
returns-then-len-gt-MAX_KEYS c =
    let values = c.in-Array.values in
    let seen : value_view c.args.keys.now ≡ array (items_view values.items) = ap value_view c.in-Array.is ∙ view-Array values in
    ap array_in seen ∙ too_many values.items (omega arith)

pub returns-else-len-gt-MAX_KEYS : goal.returns-else-len-gt-MAX_KEYS
returns-else-len-gt-MAX_KEYS c =
    let values = c.in-Array.values in
    let read = c.keys_of.result in
    let seen : value_view c.args.keys.now ≡ array (items_view values.items) = ap value_view c.in-Array.is ∙ view-Array values in
    let said : array_in (value_view c.args.keys.now) ≡ keys_from 0 (items_view values.items) =
    ap array_in seen ∙ few_enough values.items (omega arith) in
    let same : array_in (value_view c.args.keys.now) ≡ keys_from 0 (items_view c.deref.result.now) =
    said ∙ ap (λ vs. keys_from 0 (items_view vs)) (sym c.deref.ensures.value) in
    subst (λ (meant : Result (List SeenRsaKey) KeySetError). UnlessMemory read (meant ≡ read)) (sym same) c.keys_of.ensures
