use Rattle.std.proofs.Common.{◌+◌, ◌≤◌, arith}
use Rattle.oidc_members.proofs.Passing.{length_range, none_found, none_to_end}
use Rattle.oidc_members.proofs.scan.far_end.Goals as goal

pub returns-in-Some-clause-plain : goal.returns-in-Some-clause-plain
returns-in-Some-clause-plain c =
    let text = c.args.text.now in
    let from = c.args.from in
    let found = c.in-Some.ensures in
    let within : from + c.in-Some.plain ≤ c.args.last = omega (arith, found.0.high, length_range text from c.args.last c.requires.within) in
    none_found text from c.args.last c.in-Some.plain within c.requires.within found.0.before

pub returns-in-None-clause-plain : goal.returns-in-None-clause-plain
returns-in-None-clause-plain c = none_to_end c.args.text.now c.args.from c.args.last c.requires.range c.requires.within c.in-None.ensures
