use Rattle.std.proofs.Common.{sym}
use Rattle.oidc_cli.proofs.Numbers.{other_length_is_no_status, plus_is_no_status, unread_is_no_status, read_status}
use Rattle.oidc_cli.proofs.script.values.status_code_of.Goals as goal

pub returns-then-text-ne3 : goal.returns-then-text-ne3
returns-then-text-ne3 c = other_length_is_no_status _ c.if-text-ne3.true

pub returns-then-begins_with_plus : goal.returns-then-begins_with_plus
returns-then-begins_with_plus c = plus_is_no_status _ (sym c.if-begins_with_plus.ensures)

pub returns-in-Ok : goal.returns-in-Ok
returns-in-Ok c =
    rw c.ok.ensures.value
    (read_status (Unit {0}) c.args.text.now _ c.from_u16.result c.if-text-ne3.false (sym c.if-begins_with_plus.ensures) c.in-Ok.ensures.value.0 c.from_u16.ensures)

pub returns-in-Err : goal.returns-in-Err
returns-in-Err c =
    unread_is_no_status c.args.text.now c.in-Err.field-0 c.if-text-ne3.false (sym c.if-begins_with_plus.ensures) c.in-Err.ensures.value.0
