use Rattle.std.proofs.Common.{◌≡◌, [], take}
use Rattle.oidc_pairs.specs.Pairs.{values_in}
use Rattle.oidc_pairs.proofs.borrowed.BorrowedPairs.first.Given as goal

-- no pair so far has the name
abbrev pub invariant-loop-pair : goal.invariant-loop-pair
invariant-loop-pair l = values_in (take l.pair-index l.pair-items) l.name ≡ []
