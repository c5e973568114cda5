use Rattle.std.proofs.Common.{◌≡◌, take, All}
use Rattle.oidc_readers.specs.WrittenBack.{IsUtf8Member}
use Rattle.oidc_claims.proofs.all_other_claims.copies_of.Given as goal

abbrev pub invariant-loop-member : goal.invariant-loop-member
invariant-loop-member l = (l.copies.items ≡ take l.member-index l.members) × All IsUtf8Member l.copies.items
