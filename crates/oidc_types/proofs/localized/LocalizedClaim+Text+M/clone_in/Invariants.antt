use Rattle.std.specs.Prelude.{◌≡◌, ◌++◌, List, ℕ, Option}
use Rattle.std.specs.FinMap as finite
use Rattle.oidc_types.specs.Localized.{entries_left}
use Rattle.oidc_types.proofs.localized.LocalizedClaim+Text+M.clone_in.Given as goal

-- the copy is the map of the entries so far
abbrev pub invariant-loop-tag : goal.invariant-loop-tag
invariant-loop-tag g l =
    (done : List (Option (List ℕ) × List ℕ)) × (finite.entries l.self ≡ done ++ entries_left l.tag-iterator)
    × (l.copy ≡ finite.from_entries done)
