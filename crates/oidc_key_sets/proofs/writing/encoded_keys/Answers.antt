use Rattle.std.proofs.Common.{◌≡◌, ◌∙◌, ◌+◌, ◌++◌, ◌∷◌, [], ap, sym, subst, arith, rules, append-nil, append_assoc, drop}
use Rattle.std.proofs.lemmas.List.{drop_all, drop_more}
use Rattle.std.proofs.lemmas.List.Elements.{All-push, All-same}
use Rattle.oidc_key_sets.specs.Codes.{HasNumbers}
use Rattle.oidc_key_sets.proofs.writing.encoded_keys.Goals as goal

pub loop-key-preserved : goal.loop-key-preserved
loop-key-preserved c =
    let keys = c.args.keys.now in
    let place = c.loop-key.key-index in
    let done = c.loop-key.encoded.items in
    let read = c.key-item.result in
    let key = c.in_ok-encoded_key.field-0 in
    let rest = drop (place + 1) keys in
    let more : c.push.new.self.items ≡ done ++ key ∷ [] = search rules in
    let here : HasNumbers key = subst HasNumbers (sym c.in_ok-encoded_key.ensures.key) c.encoded_key.ensures.numbers in
    let next : drop place keys ≡ key ∷ rest =
    drop_more keys place read (omega arith) ∙ ap (λ k. k ∷ rest) (sym c.key-item.is ∙ sym c.in_ok-encoded_key.ensures.key) in
    let all : keys ≡ (done ++ key ∷ []) ++ rest =
    c.loop-key.invariant.keys ∙ ap (λ ks. done ++ ks) next ∙ sym (append_assoc done (key ∷ []) rest) in
    record {
      keys = all ∙ ap (λ ks. ks ++ rest) (sym more);
      numbers = All-same HasNumbers c.push.new.self.items (done ++ key ∷ []) more (All-push HasNumbers done key c.loop-key.invariant.numbers here);
    }

pub returns-clause-numbers : goal.returns-clause-numbers
returns-clause-numbers c =
    let keys = c.args.keys.now in
    let done = c.loop-key.encoded.items in
    let none_left = ap (λ rest. done ++ rest) (drop_all c.loop-key.key-index keys (omega arith)) in
    let all : keys ≡ done = c.loop-key.invariant.keys ∙ none_left ∙ append-nil done in
    All-same HasNumbers keys done all c.loop-key.invariant.numbers
