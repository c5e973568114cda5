use Rattle.std.proofs.Common.{◌≡◌, None, Some, option_and_then, get_or, sym, ap, ◌∙◌, ◌+◌, List, map, drop}
use Rattle.oidc_members.specs.Cut.{item_seen}
use Rattle.oidc_members.specs.Objects.{member_of, all_some}
use Rattle.oidc_members.specs.Seen.{SeenMember}
use Rattle.oidc_members.proofs.BytesRead.{one_more, with_front}
use Rattle.oidc_members.proofs.objects.members_in.Goals as goal

pub loop-item-preserved : goal.loop-item-preserved
loop-item-preserved c =
    let items = c.args.items.now in
    let i = c.loop-item.item-index in
    let read : option_and_then member_of (item_seen (get_or items i None)) ≡ Some c.in-Some-2.member =
    ap (λ o. option_and_then member_of (item_seen o)) c.in-Some.is ∙ sym c.in_ok-member.ensures ∙ c.in-Some-2.is in
    c.loop-item.invariant
    ∙ one_more (option_and_then member_of) item_seen items i None c.loop-item.members.items c.in-Some-2.member c.loop-item-test.true read
    ∙ ap (λ (front : List SeenMember). with_front front (all_some (option_and_then member_of) (map item_seen (drop (i + 1) items)))) (sym c.in_ok-push.ensures.items)
