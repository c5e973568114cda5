use Rattle.std.proofs.Common.{◌≡◌, ◌<◌, false, get_or, length, drop, take, sym, ap, ◌∙◌, arith}
use Rattle.std.specs.List.{prefix_len}
use Rattle.std.proofs.Math.Seq.{take-length}
use Rattle.std.proofs.lemmas.List.{length-drop}
use Rattle.std.proofs.lemmas.List.Sums.{prefix_len_is}
use Rattle.oidc_members.specs.Objects.{is_space}
use Rattle.oidc_members.proofs.space.without_spaces_before.Goals as goal
use Rattle.oidc_members.proofs.space.without_spaces_before.Goals.{then-loop-start-test+else-is_space, else-loop-start-test}

pub returns : goal.returns
returns c =
    let text = c.args.text.now in
    let start = c.loop-start.start in
    let stops : start < length text → is_space (get_or text start 0) ≡ false =
    elim c.loop-start-test.branch [
      | then-loop-start-test+else-is_space w ↦ λ lt. sym w.is_space.ensures ∙ w.if-is_space.false
      | else-loop-start-test w ↦ λ lt. absurd (omega arith)
    ] in
    let count : prefix_len is_space text ≡ start = prefix_len_is is_space text start 0 c.loop-start.invariant.0 c.loop-start.invariant.1 stops in
    let rest = drop start text in
    ap (λ n. take n rest) (sym (length-drop start text)) ∙ take-length rest ∙ ap (λ n. drop n text) (sym count)
