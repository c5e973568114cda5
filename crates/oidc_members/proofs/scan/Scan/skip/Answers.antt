use Rattle.std.proofs.Common.{arith}
use Rattle.oidc_members.proofs.Passing.{passed}
use Rattle.oidc_members.proofs.scan.Scan.skip.Goals as goal

pub returns-then-not-self-clause-passed : goal.returns-then-not-self-clause-passed
returns-then-not-self-clause-passed c =
    passed c.args.text.now c.args.i c.plain_end.result c.args.self.now c.plain_end.ensures.range.0 (omega arith) c.if-self.true c.if-not-self.true
    c.plain_end.ensures.plain c.requires.at
