use Rattle.std.proofs.Common.{◌∙◌, ap, subst, All}
use Rattle.json.specs.Value.{value_view}
use Rattle.oidc_key_sets.specs.Codes.{HasNumbers}
use Rattle.oidc_key_sets.specs.Written.{written_set}
use Rattle.oidc_key_sets.proofs.ReadBack.{has_numbers, written_text, read_back}
use Rattle.oidc_key_sets.proofs.key_set.PublishedKeySet.write.Goals as goal

pub to_vec-requires : goal.to_vec-requires
to_vec-requires c =
    let keys = c.deref.ensures.value ∙ c.in_ok-encoded.ensures.keys ∙ c.keys.ensures.keys in
    has_numbers c.args.self.now (value_view c.in_ok-value.value) (c.in_ok-value.ensures ∙ ap written_set keys)

pub returns-clause-text : goal.returns-clause-text
returns-clause-text c =
    let keys = c.deref.ensures.value ∙ c.in_ok-encoded.ensures.keys ∙ c.keys.ensures.keys in
    let same = c.in_ok-value.ensures ∙ ap written_set keys in
    written_text c.args.self.now (value_view c.in_ok-value.value) same (λ text. text.items) c.to_vec.result c.to_vec.ensures.reads_back

pub returns-clause-reads_back : goal.returns-clause-reads_back
returns-clause-reads_back c =
    let keys = c.deref.ensures.value ∙ c.in_ok-encoded.ensures.keys ∙ c.keys.ensures.keys in
    let same = c.in_ok-value.ensures ∙ ap written_set keys in
    let numbers : All HasNumbers c.args.self.now = subst (All HasNumbers) c.keys.ensures.keys c.in_ok-encoded.ensures.numbers in
    let text = written_text c.args.self.now (value_view c.in_ok-value.value) same (λ text. text.items) c.to_vec.result c.to_vec.ensures.reads_back in
    read_back c.args.self.now (value_view c.in_ok-value.value) same (λ text. text.items) c.to_vec.result numbers c.keys.ensures.count c.to_vec.ensures.utf8 text
