use Rattle.std.proofs.Common.{◌+◌, Option, option_map, ℕ, sym, ap, ◌∙◌}
use Rattle.std.specs.List.{slice_range}
use Rattle.oidc_members.proofs.Cutting.{halves_at}
use Rattle.oidc_members.proofs.cut.Item.cut.Goals as goal

pub returns-in-Some : goal.returns-in-Some
returns-in-Some c =
    let text = c.args.text.now in
    let cut = λ (o : Option ℕ). option_map (λ k. (slice_range text c.args.start k, slice_range text (k + 1) c.args.end)) o in
    sym (ap cut c.in-Some.is) ∙ halves_at text c.args.start c.args.end c.args.colon c.requires.end c.requires.first

pub returns-in-None : goal.returns-in-None
returns-in-None c =
    let text = c.args.text.now in
    let cut = λ (o : Option ℕ). option_map (λ k. (slice_range text c.args.start k, slice_range text (k + 1) c.args.end)) o in
    sym (ap cut c.in-None.is) ∙ halves_at text c.args.start c.args.end c.args.colon c.requires.end c.requires.first
