use Rattle.std.proofs.Common.{◌≡◌, ℕ, List, Some, rules}
use Rattle.std.specs.FinMap as finite
use Rattle.std.specs.Map.Iter.{deref_pair}
use Rattle.std.specs.String.{string_bytes, string_eq_equiv}
use Rattle.std.proofs.lemmas.Map.Iter.{hash_map_turn}
use Rattle.oidc_session.proofs.Entries.{shown_at}
use Rattle.oidc_session.proofs.Stores.{still_there}
use Rattle.oidc_session.proofs.store.unlink_ended.Goals as goal

pub loop-id-preserved : goal.loop-id-preserved
loop-id-preserved c =
    let k = hash_map_turn deref_pair c.loop-id.yielded c.into_iter-id-iterator.result c.loop-id.id-iterator c.next.new.self c.next.result (c.in-Some.id, c.in-Some.session)
    c.loop-id.yielded_by c.in-Some.is c.next.ensures.steps string_eq_equiv c.sessions.inside.sessions (search rules) (search rules) in
    let found : finite.get c.args.sessions.now (string_bytes c.in-Some.id.now) ≡ Some c.in-Some.session.now =
    rw (← c.sessions.view_is) (shown_at c.sessions.inside.sessions c.in-Some.id.now c.in-Some.session.now k.1) in
    let at : (x : List ℕ) → x ≡ string_bytes c.in-Some.id.now → finite.get c.args.sessions.now x ≡ Some c.in-Some.session.now =
    λ x e. rw e found in (
      λ n i s there live h.
          c.unlink_if_ended.ensures.others n i
          (still_there c.args.sessions.now c.as_str.result.now i c.in-Some.session.now s c.args.now.nanosecond (at _ c.as_str.ensures.value) there live)
          (c.loop-id.invariant.0 n i s there live h),
      λ n i s there live h.
          c.unlink_if_ended-in-loop-id.ensures.others n i
          (still_there c.args.sessions.now c.as_str-in-loop-id.result.now i c.in-Some.session.now s c.args.now.nanosecond (at _ c.as_str-in-loop-id.ensures.value) there live)
          (c.loop-id.invariant.1 n i s there live h),
    )
