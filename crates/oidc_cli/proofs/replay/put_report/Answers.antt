use Rattle.std.proofs.Common.{◌<◌, ◌≤◌, length, refl, arith}
use Rattle.oidc_cli.specs.Script.{limit, lines}
use Rattle.oidc_cli.proofs.Steps.{too_long_report, too_long_fault, fault_alone, no_lines_fault, no_client_fault, with_client_report, with_client_fault}
use Rattle.oidc_cli.proofs.replay.put_report.Goals as goal

pub returns-then-script-gt-LIMIT-clause-ending : goal.returns-then-script-gt-LIMIT-clause-ending
returns-then-script-gt-LIMIT-clause-ending g c =
    let long : limit < length c.args.script.now = omega arith in rw (too_long_fault c.args.script.now long) c.put_fault.ensures.ending

pub returns-then-script-gt-LIMIT-clause-whole : goal.returns-then-script-gt-LIMIT-clause-whole
returns-then-script-gt-LIMIT-clause-whole g c =
    let long : limit < length c.args.script.now = omega arith in rw (too_long_report c.args.script.now long) c.put_fault.ensures.whole

pub returns-then-script-gt-LIMIT-clause-begun : goal.returns-then-script-gt-LIMIT-clause-begun
returns-then-script-gt-LIMIT-clause-begun g c =
    let long : limit < length c.args.script.now = omega arith in rw (too_long_report c.args.script.now long) c.put_fault.ensures.begun

pub returns-in_default-clause-ending : goal.returns-in_default-clause-ending
returns-in_default-clause-ending g c =
    rw (no_lines_fault c.args.script.now (c.in_default.ensures.none.0 refl)) c.put_fault-in_default.ensures.ending

pub returns-in_default-clause-whole : goal.returns-in_default-clause-whole
returns-in_default-clause-whole g c =
    rw (fault_alone c.args.script.now 1 (omega arith) (no_lines_fault c.args.script.now (c.in_default.ensures.none.0 refl))) c.put_fault-in_default.ensures.whole

pub returns-in_default-clause-begun : goal.returns-in_default-clause-begun
returns-in_default-clause-begun g c =
    rw (fault_alone c.args.script.now 1 (omega arith) (no_lines_fault c.args.script.now (c.in_default.ensures.none.0 refl))) c.put_fault-in_default.ensures.begun

pub returns-in_default-client_line_of-clause-ending : goal.returns-in_default-client_line_of-clause-ending
returns-in_default-client_line_of-clause-ending g c =
    let short : length c.args.script.now ≤ limit = omega arith in
    rw (no_client_fault c.args.script.now c.in-Some.line.now (lines c.in-Some.rest.now) c.in_ok-read_line.field-0 short c.in-Some.ensures.first c.in_ok-read_line.ensures
    (c.in_default-client_line_of.ensures.none refl))
    c.put_fault-in_default-client_line_of.ensures.ending

pub returns-in_default-client_line_of-clause-whole : goal.returns-in_default-client_line_of-clause-whole
returns-in_default-client_line_of-clause-whole g c =
    let short : length c.args.script.now ≤ limit = omega arith in
    rw (fault_alone c.args.script.now 1 (omega arith)
    (no_client_fault c.args.script.now c.in-Some.line.now (lines c.in-Some.rest.now) c.in_ok-read_line.field-0 short c.in-Some.ensures.first c.in_ok-read_line.ensures
    (c.in_default-client_line_of.ensures.none refl)))
    c.put_fault-in_default-client_line_of.ensures.whole

pub returns-in_default-client_line_of-clause-begun : goal.returns-in_default-client_line_of-clause-begun
returns-in_default-client_line_of-clause-begun g c =
    let short : length c.args.script.now ≤ limit = omega arith in
    rw (fault_alone c.args.script.now 1 (omega arith)
    (no_client_fault c.args.script.now c.in-Some.line.now (lines c.in-Some.rest.now) c.in_ok-read_line.field-0 short c.in-Some.ensures.first c.in_ok-read_line.ensures
    (c.in_default-client_line_of.ensures.none refl)))
    c.put_fault-in_default-client_line_of.ensures.begun

pub returns-clause-ending : goal.returns-clause-ending
returns-clause-ending g c =
    let short : length c.args.script.now ≤ limit = omega arith in
    rw (with_client_fault c.args.script.now c.in-Some.line.now (lines c.in-Some.rest.now) c.in_ok-read_line.field-0 c.in-Some-client_line_of.client short c.in-Some.ensures.first
    c.in_ok-read_line.ensures c.in-Some-client_line_of.ensures.found)
    c.put_client-put.ensures.ending

pub returns-clause-whole : goal.returns-clause-whole
returns-clause-whole g c =
    let short : length c.args.script.now ≤ limit = omega arith in
    rw (with_client_report c.args.script.now c.in-Some.line.now (lines c.in-Some.rest.now) c.in_ok-read_line.field-0 c.in-Some-client_line_of.client short c.in-Some.ensures.first
    c.in_ok-read_line.ensures c.in-Some-client_line_of.ensures.found)
    (rw c.client_of-client.ensures at c.put_client-put.ensures.whole)

pub returns-clause-begun : goal.returns-clause-begun
returns-clause-begun g c =
    let short : length c.args.script.now ≤ limit = omega arith in
    rw (with_client_report c.args.script.now c.in-Some.line.now (lines c.in-Some.rest.now) c.in_ok-read_line.field-0 c.in-Some-client_line_of.client short c.in-Some.ensures.first
    c.in_ok-read_line.ensures c.in-Some-client_line_of.ensures.found)
    (rw c.client_of-client.ensures at c.put_client-put.ensures.begun)
