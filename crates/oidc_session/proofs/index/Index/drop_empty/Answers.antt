use Rattle.oidc_session.proofs.Linked.{keeps_dropped}
use Rattle.oidc_session.proofs.index.Index.drop_empty.Goals as goal

pub returns-then-is_empty_under : goal.returns-then-is_empty_under
returns-then-is_empty_under c =
    record { others = keeps_dropped c.args.name.now c.args.self.now.ids c.remove.new.self c.remove.ensures.updates (c.is_empty_under.ensures c.if-is_empty_under.true) }
