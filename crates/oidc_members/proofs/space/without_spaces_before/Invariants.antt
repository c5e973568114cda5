use Rattle.std.proofs.Common.{◌≡◌, ℕ, ◌<◌, ◌≤◌, ◌-◌, true, get_or, length}
use Rattle.oidc_members.specs.Objects.{is_space}
use Rattle.oidc_members.proofs.space.without_spaces_before.Given as goal

abbrev pub invariant-loop-start : goal.invariant-loop-start
invariant-loop-start l = (l.start ≤ length l.text) × ((k : ℕ) → k < l.start → is_space (get_or l.text k 0) ≡ true)

abbrev pub decreases-loop-start : goal.decreases-loop-start
decreases-loop-start l = length l.text - l.start
