use Rattle.std.proofs.Common.{◌≡◌, List, ℕ, true, Some}
use Rattle.std.specs.FinMap as finite
use Rattle.oidc_session.specs.Sessions.{SeenSession, ends_after}
use Rattle.oidc_session.specs.Stored.{holds}
use Rattle.oidc_session.proofs.store.unlink_ended.Given as goal

-- the ids of the sessions that haven't ended stay
abbrev pub invariant-loop-id : goal.invariant-loop-id
invariant-loop-id l =
    ((n i : List ℕ) (s : SeenSession) → finite.get l.sessions i ≡ Some s → ends_after l.now.nanosecond s ≡ true
    → holds l.fn.by_subject.ids n i ≡ true → holds l.by_subject.ids n i ≡ true)
    × ((n i : List ℕ) (s : SeenSession) → finite.get l.sessions i ≡ Some s → ends_after l.now.nanosecond s ≡ true
    → holds l.fn.by_provider_session.ids n i ≡ true → holds l.by_provider_session.ids n i ≡ true)
