use Rattle.std.proofs.Common.{sym, ◌∙◌}
use Rattle.oidc_cli.proofs.Passing.{on_err}
use Rattle.oidc_cli.proofs.Writing.{written_more, prefix_after, unfinished}
use Rattle.oidc_cli.proofs.sinks.CountedSink.put.Goals as goal

pub loop-rest-preserved : goal.loop-rest-preserved
loop-rest-preserved g c = record {
  written = written_more _ _ _ _ c.loop-rest.rest.now c.in_ok-count.count c.loop-rest.invariant.written
      (rw c.in_ok-count.ensures.ok at c.write-answer.ensures.bytes);
  uncounted = c.in_ok-count.ensures.uncounted ∙ c.loop-rest.invariant.uncounted;
}

pub returns-in_err-count-clause-begun : goal.returns-in_err-count-clause-begun
returns-in_err-count-clause-begun g c =
    on_err _ _ (prefix_after _ _ _ _ _ c.write-answer.result c.loop-rest.invariant.written c.write-answer.ensures.bytes)

pub returns-then-count-eq0-clause-begun : goal.returns-then-count-eq0-clause-begun
returns-then-count-eq0-clause-begun g c =
    prefix_after _ _ _ _ _ c.write-answer.result c.loop-rest.invariant.written c.write-answer.ensures.bytes

pub returns-in_err-count-clause-empty : goal.returns-in_err-count-clause-empty
returns-in_err-count-clause-empty g c = λ none. absurd (unfinished _ _ _ _ c.loop-rest.invariant.written (sym c.is_empty.ensures ∙ c.loop-rest-test.true) none)

pub returns-then-count-eq0-clause-empty : goal.returns-then-count-eq0-clause-empty
returns-then-count-eq0-clause-empty g c = λ none. absurd (unfinished _ _ _ _ c.loop-rest.invariant.written (sym c.is_empty.ensures ∙ c.loop-rest-test.true) none)
