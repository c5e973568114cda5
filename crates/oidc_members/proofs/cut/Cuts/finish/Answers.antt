use Rattle.std.proofs.Common.{◌-◌, ◌++◌, ◌∷◌, [], length, map, sym, ap, ◌∙◌}
use Rattle.std.proofs.lemmas.List.{map-append}
use Rattle.oidc_members.specs.Places.{comma, is_at_level_one}
use Rattle.oidc_members.specs.Objects.{halves}
use Rattle.oidc_members.specs.Cut.{item_seen, items_seen}
use Rattle.oidc_members.proofs.Cutting.{split_uncut}
use Rattle.oidc_members.proofs.cut.Cuts.finish.Goals as goal

pub returns : goal.returns
returns c =
    let text = c.args.text.now in
    let cuts = c.args.self in
    let last = length text - 1 in
    let p = is_at_level_one text comma in
    let part = split_uncut p cuts.start last c.requires.cut.uncut in
    ap items_seen c.in_ok-push.ensures.items
    ∙ map-append item_seen cuts.items.items (c.cut.result ∷ [])
    ∙ ap (λ h. items_seen cuts.items.items ++ (h ∷ [])) c.cut.ensures
    ∙ ap (λ ps. items_seen cuts.items.items ++ map (halves text) ps) (sym part)
    ∙ c.requires.cut.items
