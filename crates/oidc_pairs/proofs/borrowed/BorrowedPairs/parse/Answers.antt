use Rattle.std.proofs.Common.{arith}
use Rattle.std.proofs.lemmas.Grind.{common_steps}
use Rattle.oidc_pairs.proofs.Decoded.{decoded-raw_pairs}
use Rattle.oidc_pairs.proofs.borrowed.BorrowedPairs.parse.Goals as goal

pub loop-name-init : goal.loop-name-init
loop-name-init c = grind (arith, common_steps, decoded-raw_pairs)
