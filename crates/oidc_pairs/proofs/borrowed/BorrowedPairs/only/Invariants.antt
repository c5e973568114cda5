use Rattle.std.proofs.Common.{◌≡◌, take}
use Rattle.std.specs.Option.{option_copied}
use Rattle.oidc_pairs.specs.Pairs.{values_in}
use Rattle.oidc_pairs.proofs.Lookups.{list_of}
use Rattle.oidc_pairs.proofs.borrowed.BorrowedPairs.only.Given as goal

-- the value that was found is the only one so far
abbrev pub invariant-loop-pair : goal.invariant-loop-pair
invariant-loop-pair l = values_in (take l.pair-index l.pair-items) l.name ≡ list_of (option_copied l.found)
