use Rattle.std.proofs.Common.{◌≡◌, ◌-◌, ◌<◌, ◌≤◌, true, length, ltb}
use Rattle.std.specs.List.{list_all}
use Rattle.oidc_members.specs.Places.{places, level}
use Rattle.oidc_members.specs.Scan.{IsAt}
use Rattle.oidc_members.specs.Cut.{IsCutUpTo}
use Rattle.oidc_members.proofs.cut.items_of.Given as goal

abbrev pub invariant-loop-i : goal.invariant-loop-i
invariant-loop-i l = record {
  low : 1 ≤ l.i;
  high : l.i ≤ l.last;
  end : l.last ≡ length l.text - 1;
  at : IsAt l.text l.i l.scan;
  above_zero : 0 < l.scan.level;
  cut : IsCutUpTo l.text (length l.text - 1) l.i l.cuts;
  levels : list_all (λ k. ltb 0 (level l.text k)) (places 1 l.i) ≡ true;
}

abbrev pub decreases-loop-i : goal.decreases-loop-i
decreases-loop-i l = l.last - l.i
