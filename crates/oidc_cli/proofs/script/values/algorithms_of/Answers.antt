use Rattle.std.proofs.Common.{sym, ◌∙◌}
use Rattle.oidc_cli.proofs.Algorithms.{read_unknown, read_all, algorithms_of_none, algorithms_of_some}
use Rattle.oidc_cli.proofs.script.values.algorithms_of.Goals as goal

pub returns-then-is_empty : goal.returns-then-is_empty
returns-then-is_empty c = sym (rw c.new-algorithms.ensures.items (algorithms_of_none _ (sym c.if-is_empty.ensures)))

pub returns-in_default-algorithm_of : goal.returns-in_default-algorithm_of
returns-in_default-algorithm_of c =
    sym (algorithms_of_some _ _ (sym c.if-is_empty.ensures)
    (read_unknown c.args.text.now _ _ _ _ (rw c.in-Some.is at c.loop-rest.invariant) c.cut.ensures.words (sym c.algorithm_of.ensures ∙ c.in_default-algorithm_of.is)))

pub returns : goal.returns
returns c = sym (algorithms_of_some _ _ (sym c.if-is_empty.ensures) (read_all c.args.text.now _ (rw c.in_default.is at c.loop-rest.invariant)))
