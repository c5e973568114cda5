use Rattle.std.proofs.Common.{◌≡◌, drop}
use Rattle.std.specs.Slice.Iter.{iter_rest}
use Rattle.serde_json.specs.View.{items_view, members_view}
use Rattle.oidc_claims.specs.Same.{same_items, same_members}
use Rattle.oidc_claims.proofs.same.+same.Given as goal

abbrev pub invariant-is_same_array-loop-item : goal.invariant-is_same_array-loop-item
invariant-is_same_array-loop-item l =
    same_items (items_view l.a.items) (items_view l.b.items) ≡ same_items (items_view (drop l.item-index l.a.items)) (items_view (iter_rest l.others))

abbrev pub invariant-is_same_object-loop-key : goal.invariant-is_same_object-loop-key
invariant-is_same_object-loop-key l =
    same_members (members_view l.a.entries) (members_view l.b.entries) ≡ same_members (members_view l.key-iterator) (members_view l.others)
