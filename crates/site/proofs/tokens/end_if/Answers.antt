use Rattle.site.proofs.Stored.{gone_after}
use Rattle.site.proofs.tokens.end_if.Goals as goal

pub returns-then-is_over-clause-closed : goal.returns-then-is_over-clause-closed
returns-then-is_over-clause-closed c = λ over. gone_after (λ visit. visit.id) c.args.session.now.visit c.args.sessions.now.kept c.end.new.sessions.kept c.end.ensures.closed
