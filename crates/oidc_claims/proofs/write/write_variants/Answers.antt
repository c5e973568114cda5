use Rattle.oidc_types.specs.{entries_left}
use Rattle.oidc_claims.specs.Write.{variant_member}
use Rattle.oidc_claims.proofs.Steps.{mapped_more}
use Rattle.oidc_claims.proofs.write.write_variants.Goals as goal

pub loop-tag-preserved : goal.loop-tag-preserved
loop-tag-preserved g c = (
  mapped_more (variant_member c.args.claim) _ _ _ _ (entries_left c.loop-tag.tag-iterator) (entries_left c.next.new.self) c.in_ok-write_variant-in-Some.ensures.members c.in-Some-2.ensures.steps c.loop-tag.invariant.0,
  λ h. c.in_ok-write_variant-in-Some.ensures.texts (c.loop-tag.invariant.1 h),
)
