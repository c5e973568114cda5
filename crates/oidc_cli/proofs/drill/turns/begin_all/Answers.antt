use Rattle.std.proofs.Common.{◌+◌, ◌-◌, sym, ap, ◌∙◌}
use Rattle.oidc_cli.specs.Drill.{drill_client, plus, tally_of, numbers, begin_turns}
use Rattle.oidc_cli.specs.Steps.{steps_of_turns, store_after_turns}
use Rattle.oidc_cli.specs.declared.drill.turns.Turn.TheVariants.{Begin}
use Rattle.oidc_cli.proofs.Drills.{turn_counted, turn_stored, begins_left, two_more}
use Rattle.oidc_cli.proofs.drill.turns.begin_all.Goals as goal

pub loop-place-preserved : goal.loop-place-preserved
loop-place-preserved c =
    let at = c.loop-place in
    let rest = begin_turns (numbers (at.place + 1 + 1) (c.args.count - (at.place + 1))) in
    let left = begins_left at.place c.args.count c.loop-place-test.true in
    record {
      same = c.in_ok-more.ensures.client ∙ at.invariant.same;
      counted = turn_counted at.logins.pending c.take_turn.new.logins.pending (Begin (at.place + 1)) at.tally c.in_ok-more.more c.added-tally.result rest
          c.in_ok-more.ensures.counts c.in_ok-more.ensures.store c.added-tally.ensures
          ∙ ap (λ turns. plus at.tally (tally_of (steps_of_turns drill_client at.logins.pending turns))) (sym left) ∙ at.invariant.counted;
      stored = turn_stored at.logins.pending c.take_turn.new.logins.pending (Begin (at.place + 1)) at.tally c.in_ok-more.more c.added-tally.result rest
          c.in_ok-more.ensures.store
          ∙ ap (store_after_turns drill_client at.logins.pending) (sym left) ∙ at.invariant.stored;
      within = two_more at.place at.tally c.in_ok-more.more c.added-tally.result c.added-tally.ensures at.invariant.within c.in_ok-more.ensures.few;
    }
