use Rattle.std.proofs.Common.{◌≡◌, drop, option_and_then}
use Rattle.oidc_members.specs.Cut.{items_seen}
use Rattle.oidc_members.specs.Objects.{member_of, all_some}
use Rattle.oidc_members.proofs.BytesRead.{with_front}
use Rattle.oidc_members.proofs.objects.members_in.Given as goal

abbrev pub invariant-loop-item : goal.invariant-loop-item
invariant-loop-item l =
    all_some (option_and_then member_of) (items_seen l.items)
    ≡ with_front l.members.items (all_some (option_and_then member_of) (items_seen (drop l.item-index l.items)))
