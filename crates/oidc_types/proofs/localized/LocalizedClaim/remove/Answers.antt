use Rattle.std.proofs.Common.{◌∙◌, sym, ap, refl}
use Rattle.std.specs.FinMap as finite
use Rattle.std.specs.Option.{option_copied}
use Rattle.oidc_types.specs.Localized.{variants_of}
use Rattle.oidc_types.proofs.Entries.{gets_none, gets_some, takes_none, takes_some}
use Rattle.oidc_types.proofs.localized.LocalizedClaim.remove.Goals as goal

pub returns-in-None-clause-value : goal.returns-in-None-clause-value
returns-in-None-clause-value g c =
    c.take.ensures.value ∙ sym (gets_none _ _ _ c.self.view_is) ∙ sym (ap (λ t. finite.get c.args.self.now (option_copied t)) c.in-None.is)

pub returns-in-None-clause-rest : goal.returns-in-None-clause-rest
returns-in-None-clause-rest g c =
    ap (λ u. variants_of u c.self.inside.tagged.entries) c.take.ensures.after
    ∙ takes_none _ _ _ c.self.view_is ∙ sym (ap (λ t. finite.remove c.args.self.now (option_copied t)) c.in-None.is)

pub returns-in-Some-clause-value : goal.returns-in-Some-clause-value
returns-in-Some-clause-value g c =
    c.remove.ensures.value ∙ sym (gets_some _ _ _ c.self.view_is c.in-Some.tag.now) ∙ sym (ap (λ t. finite.get c.args.self.now (option_copied t)) c.in-Some.is)

pub returns-in-Some-clause-rest : goal.returns-in-Some-clause-rest
returns-in-Some-clause-rest g c =
    takes_some _ _ _ c.self.view_is c.self.inside.tagged c.remove.new.self c.in-Some.tag.now refl c.remove.ensures.updates ∙ sym (ap (λ t. finite.remove c.args.self.now (option_copied t)) c.in-Some.is)
