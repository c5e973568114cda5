use Rattle.std.proofs.Common.{◌∙◌, sym, ap}
use Rattle.std.specs.FinMap as finite
use Rattle.std.specs.Option.{option_copied}
use Rattle.oidc_types.proofs.Entries.{gets_none, gets_some}
use Rattle.oidc_types.proofs.localized.LocalizedClaim.get.Goals as goal

pub returns-in-None : goal.returns-in-None
returns-in-None g c = record {
  value = c.as_ref.ensures.value ∙ sym (gets_none _ _ _ c.self.view_is)
      ∙ sym (ap (λ t. finite.get c.args.self.now (option_copied t)) c.in-None.is);
}

pub returns-in-Some : goal.returns-in-Some
returns-in-Some g c = record {
  value = c.get.ensures.value ∙ sym (gets_some _ _ _ c.self.view_is c.in-Some.tag.now)
      ∙ sym (ap (λ t. finite.get c.args.self.now (option_copied t)) c.in-Some.is);
}
