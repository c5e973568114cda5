use Rattle.std.proofs.Common.{length, ap, ◌∙◌}
use Rattle.oidc_login.specs.Events as runs
use Rattle.oidc_login.specs.Callback.{outcome}
use Rattle.oidc_cli.specs.Types.{types}
use Rattle.oidc_cli.specs.Logins.{call_of_line}
use Rattle.oidc_cli.specs.Drill.{one_if, is_refused_as_state}
use Rattle.oidc_cli.proofs.Drills.{repeated_as}
use Rattle.oidc_cli.proofs.drill.turns.take_again.Goals as goal

pub returns-clause-counts : goal.returns-clause-counts
returns-clause-counts c =
    let replied = c.in_ok-replied in
    let own = c.requires.own in
    let line = c.in_ok-line.ensures in
    let pending = c.args.logins.now.pending in
    let reply = replied.ensures.reply ∙ (λ i. (outcome types (runs.called_with (own i) pending (call_of_line (line i))) (line i).answers).reply) in
    let sent = c.requests.ensures.requests ∙ replied.ensures.sent ∙ (λ i. (outcome types (runs.called_with (own i) pending (call_of_line (line i))) (line i).answers).sent) in
    let repeated = c.one_if-repeated.ensures ∙ ap one_if (c.is_state.ensures ∙ repeated_as replied.replied.reply ∙ ap (λ r. is_refused_as_state (runs.called r)) reply) in
    λ i. record { begun = 0; signed = 0; repeated = repeated i; sent = length (sent i) }
