use Rattle.std.proofs.Common.{rules}
use Rattle.std.proofs.lemmas.Map.Made.{filter_same_pairs}
use Rattle.oidc_session.specs.Sessions.{ends_after}
use Rattle.oidc_session.proofs.Entries.{kept_retained}
use Rattle.oidc_session.proofs.session_map.SessionMap.remove_ended.Goals as goal

pub returns : goal.returns
returns c = record {
  rest = rw (← c.self.view_is)
      (kept_retained (ends_after c.args.now.nanosecond) c.self.inside.sessions c.retain.new.self c.retain.ensures.was_unique
      (filter_same_pairs _ (λ e. ends_after c.args.now.nanosecond e.1) _ (λ k v b w f' x. search rules) _ _ c.retain.ensures.filtered));
}
