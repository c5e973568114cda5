use Rattle.oidc_session.proofs.store.Store.log_out.Goals as goal

pub remove_named-requires : goal.remove_named-requires
remove_named-requires c = record { names = c.requires; indexed = c.self.invariant }
