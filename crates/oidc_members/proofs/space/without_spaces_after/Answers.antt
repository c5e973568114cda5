use Rattle.std.proofs.Common.{◌≡◌, ◌<◌, ◌-◌, false, get_or, length, take, sym, ap, ◌∙◌, arith}
use Rattle.std.specs.List.{suffix_len}
use Rattle.std.proofs.lemmas.List.Sums.{suffix_len_is}
use Rattle.oidc_members.specs.Objects.{is_space}
use Rattle.oidc_members.proofs.space.without_spaces_after.Goals as goal
use Rattle.oidc_members.proofs.space.without_spaces_after.Goals.{then-loop-end-test+else-is_space, else-loop-end-test}

pub returns : goal.returns
returns c =
    let text = c.args.text.now in
    let end = c.loop-end.end in
    let stops : 0 < end → is_space (get_or text (end - 1) 0) ≡ false =
    elim c.loop-end-test.branch [
      | then-loop-end-test+else-is_space w ↦ λ lt. sym w.is_space.ensures ∙ w.if-is_space.false
      | else-loop-end-test w ↦ λ lt. absurd (omega arith)
    ] in
    let count : suffix_len is_space text ≡ length text - end = suffix_len_is is_space text end 0 c.loop-end.invariant.0 c.loop-end.invariant.1 stops in
    let kept : end ≡ length text - suffix_len is_space text = omega (arith, c.loop-end.invariant.0) in
    ap (λ n. take n text) kept
