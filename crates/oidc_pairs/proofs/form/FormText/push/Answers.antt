use Rattle.std.proofs.Common.{◌≡◌, [], ◌∷◌, ◌++◌, length, ap, ◌∙◌, rules}
use Rattle.std.proofs.lemmas.Str.{IsCharBoundary-end, IsUtf8-string_bytes}
use Rattle.std.specs.String.{string_bytes}
use Rattle.form_urlencoded.proofs.FormLemmas.{IsCharBoundary_grown}
use Rattle.oidc_pairs.proofs.FormTexts.{IsWritten_grown, pairs_grown, cut_back}
use Rattle.oidc_pairs.proofs.form.FormText.push.Goals as goal

pub invariant_of-self : goal.invariant_of-self
invariant_of-self c =
    IsWritten_grown (string_bytes c.self.inside.text) (string_bytes c.add_pair.new.text) c.args.name.now c.args.value.now c.self.invariant c.utf8.name c.utf8.value
    c.in-Ok.ensures.ok

pub truncate-requires : goal.truncate-requires
truncate-requires c =
    let old = c.self.inside.text in
    let new = c.add_pair.new.text in
    let grows = cut_back (string_bytes old) (string_bytes new) c.in-Err.ensures.begun in
    let boundary = IsCharBoundary_grown _ _ _ (IsUtf8-string_bytes old) (IsUtf8-string_bytes new) grows (IsCharBoundary-end (string_bytes old)) in
    let end : c.len-end.result ≡ length (string_bytes old) = search rules in
    λ _. rw end (boundary.0, λ _. boundary.1)

pub returns-in-Ok-clause-ok : goal.returns-in-Ok-clause-ok
returns-in-Ok-clause-ok c =
    pairs_grown (string_bytes c.self.inside.text) (string_bytes c.add_pair.new.text) c.args.name.now c.args.value.now c.self.invariant c.utf8.name c.utf8.value
    c.in-Ok.ensures.ok
    ∙ ap (λ list. list ++ (c.args.name.now, c.args.value.now) ∷ []) c.self.view_is
