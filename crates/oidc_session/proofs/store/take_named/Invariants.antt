use Rattle.std.proofs.Common.{◌≡◌, List, ℕ, true}
use Rattle.std.specs.Prelude.{IsSome}
use Rattle.std.specs.List.{list_any}
use Rattle.std.specs.Str.{bytes_eq}
use Rattle.std.specs.FinMap as finite
use Rattle.std.specs.String.{string_bytes}
use Rattle.oidc_session.specs.Stored.{holds, left_at}
use Rattle.oidc_session.proofs.store.take_named.Given as goal

-- what the ids so far leave, and that the ids of what is left stay in the index
abbrev pub invariant-loop-id : goal.invariant-loop-id
invariant-loop-id l =
    ((q : List ℕ) → finite.get l.sessions q ≡ left_at l.logout (list_any (λ k. bytes_eq (string_bytes k.now) q) l.yielded) (finite.get l.fn.sessions q))
    × ((n i : List ℕ) → IsSome (finite.get l.sessions i) → holds l.fn.index.ids n i ≡ true → holds l.index.ids n i ≡ true)
