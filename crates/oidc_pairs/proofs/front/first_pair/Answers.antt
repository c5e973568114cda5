use Rattle.std.proofs.Common.{◌≡◌, ◌<◌, length, sym, ap, ◌∙◌, arith, rules}
use Rattle.std.proofs.lemmas.List.{nil_from_length}
use Rattle.form_urlencoded.specs.Form.{raw_pairs}
use Rattle.form_urlencoded.proofs.FormLemmas.{raw_pairs-nil, raw_pairs_skip, raw_pairs_first}
use Rattle.oidc_pairs.proofs.front.first_pair.Goals as goal

pub returns-then-not-is_empty : goal.returns-then-not-is_empty
returns-then-not-is_empty c =
    let nonempty : 0 < length c.cut.result.0.now = search rules in
    let outer = c.cut.ensures in
    let inner = c.cut-then-not-is_empty.ensures in
    let some : 0 < length c.loop-rest.rest.now = search rules in
    let less = outer.shorter some in (
      rw (inner.before, inner.behind, outer.behind, outer.before, ← c.loop-rest.invariant.same) (raw_pairs_first _ (rw outer.before at nonempty)),
      omega (arith, c.loop-rest.invariant.within),
    )

pub loop-rest-preserved : goal.loop-rest-preserved
loop-rest-preserved c =
    let empty : length c.cut.result.0.now ≡ 0 = search rules in
    let outer = c.cut.ensures in
    let some : 0 < length c.loop-rest.rest.now = search rules in
    let less = outer.shorter some in
    record {
      same = ap raw_pairs outer.behind ∙ sym (raw_pairs_skip _ (rw outer.before at empty)) ∙ c.loop-rest.invariant.same;
      within = omega (arith, c.loop-rest.invariant.within);
    }

pub returns : goal.returns
returns c =
    let ended = nil_from_length c.loop-rest.rest.now (search rules) in
    sym c.loop-rest.invariant.same ∙ ap raw_pairs ended ∙ raw_pairs-nil
