use Rattle.std.proofs.Common.{◌≡◌, None, take}
use Rattle.std.specs.List.{find}
use Rattle.site.proofs.Sids.{is_sid}
use Rattle.site.proofs.keep.sid_in.Given as goal

-- no claim so far has the name
abbrev pub invariant-loop-claim : goal.invariant-loop-claim
invariant-loop-claim l = find is_sid (take l.claim-index l.claim-items) ≡ None
