use Rattle.std.proofs.Common.{◌≡◌, ◌+◌, ◌-◌, ◌<◌, ltb, length, map, refl, sym, ap, ◌∙◌, arith, rules}
use Rattle.std.specs.List.{list_all}
use Rattle.oidc_members.specs.Places.{places, level}
use Rattle.oidc_members.specs.Objects.{halves}
use Rattle.oidc_members.specs.Cut.{items_seen}
use Rattle.oidc_members.proofs.Braces.{braced_brace, braced_end, braced_short, braced_flat, braced, pieces_blank, pieces_cut, blank_between}
use Rattle.oidc_members.proofs.Passing.{cut_kept, levels_to}
use Rattle.oidc_members.proofs.cut.items_of.Goals as goal
use Rattle.oidc_members.proofs.cut.items_of.Goals.{then-text-lt2-via-then-text-lt2, then-text-lt2-via-else-text-lt2+then-text-ne123}

pub returns-then-text-lt2 : goal.returns-then-text-lt2
returns-then-text-lt2 c =
    elim c.then-text-lt2.branch [
      | then-text-lt2-via-then-text-lt2 w ↦ braced_short c.args.text.now (omega arith)
      | then-text-lt2-via-else-text-lt2+then-text-ne123 w ↦ braced_brace c.args.text.now (search (rules, w.if-text-ne123))
    ]

pub loop-i-init : goal.loop-i-init
loop-i-init c = record {
  low = omega arith;
  high = omega arith;
  end = refl;
  at = c.behind_brace-scan.ensures.at;
  above_zero = c.behind_brace-scan.ensures.inside;
  cut = c.in_ok-cuts.ensures;
  levels = refl;
}

pub loop-i-preserved : goal.loop-i-preserved
loop-i-preserved c =
    let text = c.args.text.now in
    let i = c.loop-i.i in
    let j = c.skip-i.result in
    let before = c.loop-i.invariant in
    let passed = c.skip-i.ensures.passed in
    let above : 0 < c.step-scan.result.level = omega arith in
    record {
      low = omega arith;
      high = omega arith;
      end = refl;
      at = passed.at;
      above_zero = above;
      cut = cut_kept text (length text - 1) (i + 1) j c.take.new.self (omega arith) passed.inside c.in_ok-take.ensures;
      levels = levels_to text i j c.loop-i.scan c.step-scan.result before.low (omega arith) before.at before.above_zero passed above before.levels;
    }

pub returns-then-scan-eq0 : goal.returns-then-scan-eq0
returns-then-scan-eq0 c =
    let text = c.args.text.now in
    let i = c.loop-i.i in
    let flat : level text (i + 1) ≡ 0 = omega (arith, c.step-scan.ensures.level) in
    braced_flat text (i + 1) (omega arith) (omega arith) flat

pub returns-then-not-is_at_level_one : goal.returns-then-not-is_at_level_one
returns-then-not-is_at_level_one c = braced_end c.args.text.now (sym c.is_at_level_one.ensures ∙ c.if-not-is_at_level_one.true)

pub returns-then-is_blank : goal.returns-then-is_blank
returns-then-is_blank c =
    let text = c.args.text.now in
    let end : length text - 1 ≡ c.loop-i.i = omega arith in
    let blank = sym (blank_between text (omega arith)) ∙ sym c.is_blank.ensures ∙ c.if-is_blank.true in (
      braced text (search (rules, c.if-text-ne123.false)) (sym c.is_at_level_one.ensures ∙ c.if-not-is_at_level_one.false)
          (ap (λ n. list_all (λ k. ltb 0 (level text k)) (places 1 n)) end ∙ c.loop-i.invariant.levels),
      ap items_seen c.new-then-is_blank.ensures.items ∙ ap (map (halves text)) (sym (pieces_blank text blank)),
    )

pub returns : goal.returns
returns c =
    let text = c.args.text.now in
    let end : length text - 1 ≡ c.loop-i.i = omega arith in
    let filled = sym (blank_between text (omega arith)) ∙ sym c.is_blank.ensures ∙ c.if-is_blank.false in (
      braced text (search (rules, c.if-text-ne123.false)) (sym c.is_at_level_one.ensures ∙ c.if-not-is_at_level_one.false)
          (ap (λ n. list_all (λ k. ltb 0 (level text k)) (places 1 n)) end ∙ c.loop-i.invariant.levels),
      c.in_ok-finish.ensures ∙ ap (map (halves text)) (sym (pieces_cut text filled)),
    )
