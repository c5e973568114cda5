use Rattle.std.proofs.Common.{◌≡◌, [], take, drop}
use Rattle.oidc_readers.specs.Passes.{first_by}
use Rattle.oidc_readers.proofs.passes.read_members.Given as goal

-- the reader holds what came, and no member that came is faulty
abbrev pub invariant-loop-place : goal.invariant-loop-place
invariant-loop-place g l = record {
  state : l.reader ≡ g.R.MemberReader.state l.reading (take l.place l.members);
  clean : first_by (g.R.MemberReader.fault l.reading) [] l.members ≡ first_by (g.R.MemberReader.fault l.reading) (take l.place l.members) (drop l.place l.members);
}
