use Rattle.std.proofs.Common.{ap, ◌∙◌}
use Rattle.std.specs.FinMap as finite
use Rattle.oidc_cli.specs.Drill.{drill_client, tally_of, begin_turns, numbers}
use Rattle.oidc_cli.specs.Steps.{steps_of_turns, store_after_turns}
use Rattle.oidc_cli.proofs.Drills.{all_counted, all_stored}
use Rattle.oidc_cli.proofs.drill.run_over.Goals as goal

pub returns-clause-tally : goal.returns-clause-tally
returns-clause-tally c =
    let none = c.requires.empty in
    let begins = begin_turns (numbers 1 c.args.count) in
    all_counted c.begin_all.new.logins.pending c.args.count c.in_ok-begun.begun c.in_ok-called.called c.added.result c.added.ensures
    (c.in_ok-begun.ensures.counts ∙ ap (λ m. tally_of (steps_of_turns drill_client m begins)) none)
    (c.in_ok-begun.ensures.store ∙ ap (λ m. store_after_turns drill_client m begins) none)
    c.in_ok-called.ensures.counts

pub returns-clause-pending : goal.returns-clause-pending
returns-clause-pending c =
    let none = c.requires.empty in
    let begins = begin_turns (numbers 1 c.args.count) in
    c.pending.ensures.count
    ∙ ap finite.len
    (all_stored c.begin_all.new.logins.pending c.call_all.new.logins.pending c.args.count
    (c.in_ok-begun.ensures.store ∙ ap (λ m. store_after_turns drill_client m begins) none) c.in_ok-called.ensures.store)
