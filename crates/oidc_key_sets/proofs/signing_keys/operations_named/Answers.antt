use Rattle.std.proofs.Common.{◌≡◌, ◌∙◌, ◌++◌, ◌∷◌, [], Some, None, ap, sym, append-nil, arith}
use Rattle.oidc_key_sets.specs.SigningKeys.{operation_named}
use Rattle.oidc_key_sets.proofs.SaidKeys.{named_more}
use Rattle.oidc_key_sets.proofs.signing_keys.operations_named.Goals.{in-Some+in_ok-push, in_default}
use Rattle.oidc_key_sets.proofs.signing_keys.operations_named.Goals as goal

pub loop-text-preserved : goal.loop-text-preserved
loop-text-preserved c =
    let texts = c.args.texts.now in
    let place = c.loop-text.text-index in
    let text = c.text-item.result in
    let named : operation_named text ≡ c.operation_named.result = ap operation_named (sym c.as_str.ensures) ∙ sym c.operation_named.ensures in
    elim c.match-operation_named.branch [
      | in-Some+in_ok-push w ↦
          let operation = w.in-Some.operation in
          let more = named_more texts place text (Some operation) (omega arith) (sym c.text-item.is) (named ∙ w.in-Some.is) in
          ap (λ v. v.items) w.operations-is ∙ w.in_ok-push.ensures.items ∙ ap (λ before. before ++ operation ∷ []) c.loop-text.invariant ∙ sym more
      | in_default w ↦
          let more = named_more texts place text None (omega arith) (sym c.text-item.is) (named ∙ w.in_default.is) in
          ap (λ v. v.items) w.operations-is ∙ c.loop-text.invariant ∙ sym (more ∙ append-nil _)
    ]
