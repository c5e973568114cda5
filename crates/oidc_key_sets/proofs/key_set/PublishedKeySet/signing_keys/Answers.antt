use Rattle.std.proofs.Common.{◌≡◌, ◌∙◌, true, false, All, filter, Err, ap, sym, subst, arith}
use Rattle.std.proofs.lemmas.List.{take_all}
use Rattle.oidc_rsa.specs.Key.{IsModulus, IsExponent}
use Rattle.oidc_key_sets.specs.SigningKeys.{IsAllowed, checks_signatures}
use Rattle.oidc_key_sets.proofs.SaidKeys.{keys_more, keys_same, allowed_more, allowed_same, first_refused}
use Rattle.oidc_key_sets.proofs.key_set.PublishedKeySet.signing_keys.Goals.{then-checks_signatures+in-Ok+in_ok-push-in-Ok, else-checks_signatures}
use Rattle.oidc_key_sets.proofs.key_set.PublishedKeySet.signing_keys.Goals as goal

pub returns-in-Err-Modulus-clause-cause : goal.returns-in-Err-Modulus-clause-cause
returns-in-Err-Modulus-clause-cause c =
    let said = c.index-set-place.result in
    let may : checks_signatures said ≡ true = sym c.checks_signatures.ensures ∙ c.if-checks_signatures.true in
    let why = c.signing_key.ensures.modulus (c.in-Err-Modulus.is ∙ ap Err c.in-Err-Modulus.field-0-is) in
    first_refused c.keys-set.result.now c.loop-place.place said (omega arith) c.index-set-place.is c.loop-place.invariant.allowed
    c.args.self.now c.keys-set.ensures.keys (λ key. ¬ IsModulus key.modulus) may why

pub returns-in-Err-Exponent-clause-cause : goal.returns-in-Err-Exponent-clause-cause
returns-in-Err-Exponent-clause-cause c =
    let said = c.index-set-place.result in
    let may : checks_signatures said ≡ true = sym c.checks_signatures.ensures ∙ c.if-checks_signatures.true in
    let why = c.signing_key.ensures.exponent (c.in-Err-Exponent.is ∙ ap Err c.in-Err-Exponent.field-0-is) in
    first_refused c.keys-set.result.now c.loop-place.place said (omega arith) c.index-set-place.is c.loop-place.invariant.allowed
    c.args.self.now c.keys-set.ensures.keys (λ key. IsModulus key.modulus × (¬ IsExponent key.exponent)) may why

pub loop-place-preserved : goal.loop-place-preserved
loop-place-preserved c =
    let set = c.keys-set.result.now in
    let place = c.loop-place.place in
    let said = c.index-set-place.result in
    let keys = c.loop-place.keys.items in
    let now = c.if-checks_signatures.keys.items in
    let had = c.loop-place.invariant in
    elim c.if-checks_signatures.branch [
      | then-checks_signatures+in-Ok+in_ok-push-in-Ok w ↦
          let may : checks_signatures said ≡ true = sym c.checks_signatures.ensures ∙ w.if-checks_signatures.true in
          let is_now = ap (λ v. v.items) w.keys-is ∙ w.in_ok-push-in-Ok.ensures.items in
          record {
            keys = keys_more set place said (omega arith) c.index-set-place.is keys now had.keys w.in-Ok.key may is_now w.in-Ok.ensures.key;
            allowed = allowed_more set place said (omega arith) c.index-set-place.is had.allowed may w.in-Ok.ensures.allowed;
          }
      | else-checks_signatures w ↦
          let not : checks_signatures said ≡ false = sym c.checks_signatures.ensures ∙ w.if-checks_signatures.false in
          record {
            keys = keys_same set place said (omega arith) c.index-set-place.is keys now had.keys not (ap (λ v. v.items) w.keys-is);
            allowed = allowed_same set place said (omega arith) c.index-set-place.is had.allowed not;
          }
    ]

pub returns-clause-allowed : goal.returns-clause-allowed
returns-clause-allowed c =
    let whole = take_all c.loop-place.place c.keys-set.result.now (omega arith) ∙ c.keys-set.ensures.keys in
    subst (λ set. All IsAllowed (filter checks_signatures set)) whole c.loop-place.invariant.allowed
