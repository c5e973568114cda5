use Rattle.std.proofs.Common.{◌≡◌, ◌+◌, ◌-◌, ◌++◌, ◌∷◌, true, length, map, sym, ap, ◌∙◌, arith}
use Rattle.std.specs.List.{slice_split}
use Rattle.oidc_members.specs.Places.{places, comma, is_at_level_one}
use Rattle.oidc_members.specs.Objects.{halves}
use Rattle.oidc_members.specs.Cut.{item_seen, items_seen}
use Rattle.oidc_members.proofs.Cutting.{split_cut, one_done}
use Rattle.oidc_members.proofs.cut.Cuts.take.Goals as goal

pub returns-in_ok-push : goal.returns-in_ok-push
returns-in_ok-push c =
    let text = c.args.text.now in
    let i = c.args.i in
    let cuts = c.args.self.now in
    let last = length text - 1 in
    let p = is_at_level_one text comma in
    let cut : p i ≡ true = sym c.is_at_level_one.ensures ∙ c.if-is_at_level_one.true in
    let parts = split_cut p cuts.start i last c.requires.cut.high c.requires.within c.requires.cut.uncut cut in
    let rest = map (halves text) (slice_split p (places (i + 1) last)) in
    let so_far : items_seen cuts.items.items ++ (item_seen c.cut.result ∷ rest) ≡ map (halves text) (slice_split p (places 1 last)) =
    ap (λ h. items_seen cuts.items.items ++ (h ∷ rest)) c.cut.ensures
    ∙ ap (λ ps. items_seen cuts.items.items ++ map (halves text) ps) (sym parts)
    ∙ c.requires.cut.items in
    record {
      low = omega arith;
      high = omega arith;
      uncut = λ k a b. absurd (omega arith);
      first = λ k a b. absurd (omega arith);
      items = ap (λ is. items_seen is ++ rest) c.in_ok-push.ensures.items ∙ one_done item_seen cuts.items.items c.cut.result rest _ so_far;
    }
