use Rattle.std.proofs.Common.{sym}
use Rattle.oidc_jwt.proofs.PartsOf.{one_alone, two_alone, more_than_three}
use Rattle.oidc_jwt.proofs.parts.three_parts.Goals as goal

pub returns-in_default-clause-none : goal.returns-in_default-clause-none
returns-in_default-clause-none c = λ _. one_alone c.args.text.now _ (rw c.in_default.is at c.cut.ensures)

pub returns-in_default-rest-clause-none : goal.returns-in_default-rest-clause-none
returns-in_default-rest-clause-none c = λ _. two_alone c.args.text.now _ _ (rw (c.in-Some.is, c.cut-2.ensures, c.in_default-rest.is) at c.cut.ensures)

pub returns-then-is_some-clause-none : goal.returns-then-is_some-clause-none
returns-then-is_some-clause-none c = λ _.
    more_than_three c.args.text.now _ _ _ c.cut-3.result.1 (sym c.if-is_some.ensures) (rw (c.in-Some.is, c.cut-2.ensures, c.in-Some-rest.is, c.cut-3.ensures) at c.cut.ensures)
