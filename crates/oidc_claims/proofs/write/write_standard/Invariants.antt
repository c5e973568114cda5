use Rattle.std.proofs.Common.{◌≡◌, take, All}
use Rattle.std.specs.List.{flat_map}
use Rattle.oidc_readers.specs.WrittenBack.{IsUtf8Member}
use Rattle.oidc_claims.specs.Table.{all_claims}
use Rattle.oidc_claims.specs.Write.{claim_members}
use Rattle.oidc_claims.proofs.write.write_standard.Given as goal

abbrev pub invariant-loop-claim : goal.invariant-loop-claim
invariant-loop-claim g l =
    (l.out.items ≡ flat_map (claim_members g.GC.GenderClaim.write_of l.claims) (take l.claim-index all_claims)) × All IsUtf8Member l.out.items
