use Rattle.std.specs.Prelude.{◌≡◌}
use Rattle.std.specs.Cmp.Lexicographic.{pointwise}
use Rattle.oidc_types.specs.Localized.{entries_left}
use Rattle.oidc_types.specs.Localized.{same_entry, same_variants}
use Rattle.oidc_types.proofs.localized.LocalizedClaimPartialEq.eq.Given as goal

-- what is left to compare decides
abbrev pub invariant-loop-mine : goal.invariant-loop-mine
invariant-loop-mine g l =
    same_variants g.T.PartialEq.eq l.self l.other
    ≡ pointwise (same_entry g.T.PartialEq.eq) (entries_left l.mine-iterator) (entries_left l.theirs)
