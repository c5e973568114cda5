use Rattle.std.proofs.Common.{◌∙◌, sym, ap, refl}
use Rattle.std.specs.FinMap as finite
use Rattle.oidc_types.proofs.Entries.{gets_none, gets_some, puts_none, puts_some}
use Rattle.oidc_types.proofs.localized.LocalizedClaim.insert.Goals as goal

pub returns-in-None-clause-before : goal.returns-in-None-clause-before
returns-in-None-clause-before g c =
    c.take-before.ensures.value ∙ sym (gets_none _ _ _ c.self.view_is) ∙ sym (ap (λ t. finite.get c.args.self.now t) c.in-None.is)

pub returns-in-None-clause-ok : goal.returns-in-None-clause-ok
returns-in-None-clause-ok g c =
    puts_none _ _ _ c.self.view_is c.args.value ∙ sym (ap (λ t. finite.insert c.args.self.now t c.args.value) c.in-None.is)

pub returns-in_ok-insert-in-Some-clause-before : goal.returns-in_ok-insert-in-Some-clause-before
returns-in_ok-insert-in-Some-clause-before g c =
    c.in_ok-insert-in-Some.ensures.old ∙ sym (gets_some _ _ _ c.self.view_is c.in-Some.tag) ∙ sym (ap (λ t. finite.get c.args.self.now t) c.in-Some.is)

pub returns-in_ok-insert-in-Some-clause-ok : goal.returns-in_ok-insert-in-Some-clause-ok
returns-in_ok-insert-in-Some-clause-ok g c =
    puts_some _ _ _ c.self.view_is c.self.inside.tagged c.insert.new.self c.in-Some.tag refl c.args.value c.in_ok-insert-in-Some.ensures.updates
    ∙ sym (ap (λ t. finite.insert c.args.self.now t c.args.value) c.in-Some.is)
