use Rattle.std.proofs.Common.{◌≡◌, ◌++◌, length}
use Rattle.form_urlencoded.specs.Form.{raw_pairs}
use Rattle.oidc_pairs.specs.Pairs.{pairs}
use Rattle.oidc_pairs.proofs.Decoded.{decoded}
use Rattle.oidc_pairs.proofs.borrowed.BorrowedPairs.parse.Given as goal

abbrev pub invariant-loop-name : goal.invariant-loop-name
invariant-loop-name l = l.items.items ++ decoded (raw_pairs l.rest) ≡ pairs l.text

abbrev pub decreases-loop-name : goal.decreases-loop-name
decreases-loop-name l = length l.rest
