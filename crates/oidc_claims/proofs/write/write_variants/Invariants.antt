use Rattle.std.proofs.Common.{◌≡◌, ◌++◌, map}
use Rattle.oidc_types.specs.{entries_left}
use Rattle.oidc_readers.specs.WrittenBack.{KeepsUtf8}
use Rattle.oidc_claims.specs.Write.{variant_member}
use Rattle.oidc_claims.proofs.write.write_variants.Given as goal

abbrev pub invariant-loop-tag : goal.invariant-loop-tag
invariant-loop-tag g l =
    (l.out.items ++ map (variant_member l.claim) (entries_left l.tag-iterator) ≡ l.fn.out.items ++ map (variant_member l.claim) (entries_left l.initial.tag-iterator))
    × KeepsUtf8 l.fn.out.items l.out.items
