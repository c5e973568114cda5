use Rattle.std.proofs.Common.{◌∙◌}
use Rattle.oidc_types.specs.Localized.{entries_of}
use Rattle.oidc_types.proofs.Entries.{entries_are}
use Rattle.oidc_types.proofs.localized.LocalizedClaim.iter.Goals as goal

pub returns : goal.returns
returns g c = record {
  all = (λ i. entries_of (c.as_ref.ensures.value i) (c.iter.ensures.rest i))
      ∙ entries_are _ _ _ c.self.view_is c.iter.ensures.ordered;
}
