use Rattle.std.proofs.Common.{inl, inr, sym, ◌∙◌}
use Rattle.oidc_cli.proofs.Statuses.{same_of, ends_in_fault, done_without_fault, fault_with_line, whole_at, begun_at, short_without_fault, completes}
use Rattle.oidc_cli.proofs.program.replay.Goals as goal

pub returns-in-Ok-clause-ended : goal.returns-in-Ok-clause-ended
returns-in-Ok-clause-ended g c = λ done.
    let none = done_without_fault c.put_report.result c.in-Ok.script.items (rw c.as_slice.ensures.value at c.put_report.ensures.ending) (sym c.status_of_run.ensures ∙ done) in
    c.in-Ok.ensures.ended (short_without_fault c.in-Ok.script.items none)

pub returns-in-Ok-clause-whole : goal.returns-in-Ok-clause-whole
returns-in-Ok-clause-whole g c = λ script known done.
    let same = same_of _ _ script c.in-Ok.script.items known c.in-Ok.ensures.script c.in-Ok.ensures.ended in
    same.same_fault
    ∙ done_without_fault c.put_report.result c.in-Ok.script.items (rw c.as_slice.ensures.value at c.put_report.ensures.ending) (sym c.status_of_run.ensures ∙ done)

pub returns-in-Ok-clause-reported : goal.returns-in-Ok-clause-reported
returns-in-Ok-clause-reported g c = λ script known done.
    let same = same_of _ _ script c.in-Ok.script.items known c.in-Ok.ensures.script c.in-Ok.ensures.ended in
    rw same.same_report (whole_at c.put_report.result _ (rw c.as_slice.ensures.value at c.put_report.ensures.whole) (inl (sym c.status_of_run.ensures ∙ done)))

pub returns-in-Ok-clause-fault : goal.returns-in-Ok-clause-fault
returns-in-Ok-clause-fault g c = λ script known done.
    let same = same_of _ _ script c.in-Ok.script.items known c.in-Ok.ensures.script c.in-Ok.ensures.ended in
    let line = fault_with_line c.put_report.result c.in-Ok.script.items (rw c.as_slice.ensures.value at c.put_report.ensures.ending) (sym c.status_of_run.ensures ∙ done) in
    ends_in_fault script line.0 (same.same_fault ∙ line.1)

pub returns-in-Ok-clause-fault_reported : goal.returns-in-Ok-clause-fault_reported
returns-in-Ok-clause-fault_reported g c = λ script known done.
    let same = same_of _ _ script c.in-Ok.script.items known c.in-Ok.ensures.script c.in-Ok.ensures.ended in
    rw same.same_report (whole_at c.put_report.result _ (rw c.as_slice.ensures.value at c.put_report.ensures.whole) (inr (sym c.status_of_run.ensures ∙ done)))

pub returns-in-Ok-clause-begun : goal.returns-in-Ok-clause-begun
returns-in-Ok-clause-begun g c = λ script known done.
    let same = same_of _ _ script c.in-Ok.script.items known c.in-Ok.ensures.script c.in-Ok.ensures.ended in
    rw same.same_report (begun_at c.put_report.result _ (rw c.as_slice.ensures.value at c.put_report.ensures.begun) (rw c.status_of_run.ensures at done))

pub returns-in-Ok-clause-completes : goal.returns-in-Ok-clause-completes
returns-in-Ok-clause-completes g c = λ script known none source sink.
    let same = same_of _ _ script c.in-Ok.script.items known c.in-Ok.ensures.script c.in-Ok.ensures.ended in
    rw c.status_of_run.ensures
    (completes c.put_report.result c.in-Ok.script.items _ (rw c.as_slice.ensures.value at c.put_report.ensures.ending) (sym same.same_fault ∙ none) c.put_report.ensures.blamed sink)
