use Rattle.std.proofs.Common.{◌≡◌, ◌+◌, ◌-◌, ◌*◌}
use Rattle.oidc_cli.specs.Drill.{drill_client, plus, tally_of, numbers, begin_turns}
use Rattle.oidc_cli.specs.Steps.{steps_of_turns, store_after_turns, IsWithin}
use Rattle.oidc_cli.proofs.drill.turns.begin_all.Given as goal

-- the counts so far and those of the turns that are left are those of all
abbrev pub invariant-loop-place : goal.invariant-loop-place
invariant-loop-place l =
    let left = begin_turns (numbers (l.place + 1) (l.count - l.place)) in
    let all = begin_turns (numbers 1 l.count) in
    record {
      same : l.logins.client ≡ l.fn.logins.client;
      counted : plus l.tally (tally_of (steps_of_turns drill_client l.logins.pending left)) ≡ tally_of (steps_of_turns drill_client l.fn.logins.pending all);
      stored : store_after_turns drill_client l.logins.pending left ≡ store_after_turns drill_client l.fn.logins.pending all;
      within : IsWithin (2 * l.place) l.tally;
    }
