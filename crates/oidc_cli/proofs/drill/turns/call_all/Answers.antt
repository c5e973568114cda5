use Rattle.std.proofs.Common.{◌+◌, ◌-◌, ◌∷◌, sym, ap, ◌∙◌}
use Rattle.oidc_cli.specs.Drill.{drill_client, plus, tally_of, numbers, callback_turns}
use Rattle.oidc_cli.specs.Steps.{steps_of_turns, store_after_turns}
use Rattle.oidc_cli.specs.declared.drill.turns.Turn.TheVariants.{First, Again}
use Rattle.oidc_cli.proofs.Drills.{turn_counted, turn_stored, callbacks_left, four_more}
use Rattle.oidc_cli.proofs.drill.turns.call_all.Goals as goal

pub loop-place-preserved : goal.loop-place-preserved
loop-place-preserved c =
    let at = c.loop-place in
    let one = c.in_ok-more in
    let two = c.in_ok-more-2 in
    let rest = callback_turns (numbers (at.place + 1 + 1) (c.args.count - (at.place + 1))) in
    let left = callbacks_left at.place c.args.count c.loop-place-test.true in
    let first = First (at.place + 1) in
    let again = Again (at.place + 1) in
    let middle = c.take_turn.new.logins.pending in
    let end = c.take_turn-in-loop-place.new.logins.pending in
    record {
      same = two.ensures.client ∙ one.ensures.client ∙ at.invariant.same;
      counted = turn_counted middle end again c.added-once.result two.more c.added-tally.result rest two.ensures.counts two.ensures.store c.added-tally.ensures
          ∙ turn_counted at.logins.pending middle first at.tally one.more c.added-once.result (again ∷ rest) one.ensures.counts one.ensures.store c.added-once.ensures
          ∙ ap (λ turns. plus at.tally (tally_of (steps_of_turns drill_client at.logins.pending turns))) (sym left) ∙ at.invariant.counted;
      stored = turn_stored middle end again c.added-once.result two.more c.added-tally.result rest two.ensures.store
          ∙ turn_stored at.logins.pending middle first at.tally one.more c.added-once.result (again ∷ rest) one.ensures.store
          ∙ ap (store_after_turns drill_client at.logins.pending) (sym left) ∙ at.invariant.stored;
      within = four_more at.place at.tally one.more c.added-once.result two.more c.added-tally.result c.added-once.ensures c.added-tally.ensures at.invariant.within
          one.ensures.few two.ensures.few;
    }
