use Rattle.oidc_session.proofs.Stores.{indexed_kept}
use Rattle.oidc_session.proofs.store.unlink.Goals as goal

pub returns-in-Some : goal.returns-in-Some
returns-in-Some c =
    indexed_kept c.args.sessions.now c.args.by_subject.now.ids c.args.by_provider_session.now.ids c.unlink_subject.new.by_subject.ids c.unlink_behind.new.by_provider_session.ids
    c.requires c.unlink_subject.ensures.others c.unlink_behind.ensures.others
