use Rattle.std.proofs.Common.{ℕ, List, Option, [], ◌∷◌, ◌++◌}
use Rattle.std.specs.Option.{option_copied}
use Rattle.oidc_types.specs.Localized.{entries_left}
use Rattle.oidc_types.proofs.Copies.{append-next, pushed, finished}
use Rattle.oidc_types.proofs.localized.LocalizedClaim+Text+M.clone_in.Goals as goal

pub loop-tag-preserved-in_ok-insert : goal.loop-tag-preserved-in_ok-insert
loop-tag-preserved-in_ok-insert g c =
    let done = c.loop-tag.invariant in
    let e : Option (List ℕ) × List ℕ = (option_copied c.in-Some.tag, c.in-Some.value.now) in (
      done.0 ++ e ∷ [],
      append-next done.0 (entries_left c.next.new.self) (entries_left c.loop-tag.tag-iterator) _ e done.1 c.in-Some.ensures.steps,
      pushed c.args.self.now c.loop-tag.copy c.insert.new.self done.0 (entries_left c.next.new.self) (entries_left c.loop-tag.tag-iterator) e c.in_ok-tag.tag c.in_ok-value.value done.1 c.in-Some.ensures.steps done.2 c.in_ok-insert.ensures.ok c.in_ok-tag.ensures c.in_ok-value.ensures.copy,
    )

pub loop-tag-preserved : goal.loop-tag-preserved
loop-tag-preserved g c =
    let done = c.loop-tag.invariant in
    let e : Option (List ℕ) × List ℕ = (option_copied c.in-Some.tag, c.in-Some.value.now) in (
      done.0 ++ e ∷ [],
      append-next done.0 (entries_left c.next.new.self) (entries_left c.loop-tag.tag-iterator) _ e done.1 c.in-Some.ensures.steps,
      pushed c.args.self.now c.loop-tag.copy c.insert.new.self done.0 (entries_left c.next.new.self) (entries_left c.loop-tag.tag-iterator) e c.in_ok-tag.tag c.in_ok-value.value done.1 c.in-Some.ensures.steps done.2 c.in_ok-insert.ensures.ok c.in_ok-tag.ensures c.in_ok-value.ensures.copy,
    )

pub returns : goal.returns
returns g c =
    let done = c.loop-tag.invariant in
    record { copy = finished c.args.self.now c.loop-tag.copy done.0 _ done.1 c.in-None.ensures.steps.0 done.2 }
