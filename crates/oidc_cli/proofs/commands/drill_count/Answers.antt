use Rattle.std.proofs.Common.{sym, ◌∙◌, Ok, Err}
use Rattle.oidc_cli.proofs.Numbers.{zero_is_no_count, plus_is_no_count, parsed_count}
use Rattle.oidc_cli.proofs.commands.drill_count.Goals as goal

pub returns-then-begins_with_zero : goal.returns-then-begins_with_zero
returns-then-begins_with_zero c = zero_is_no_count _ (sym c.if-begins_with_zero.ensures)

pub returns-then-begins_with_plus : goal.returns-then-begins_with_plus
returns-then-begins_with_plus c = plus_is_no_count _ (sym c.if-begins_with_plus.ensures)

pub returns-in-Ok : goal.returns-in-Ok
returns-in-Ok c =
    c.in_drill.ensures
    ∙ parsed_count {E = Unit {0}} c.args.word.now (Ok c.in-Ok.count) (sym c.if-begins_with_zero.ensures) (sym c.if-begins_with_plus.ensures)
    c.in-Ok.ensures.value.0

pub returns-in-Err : goal.returns-in-Err
returns-in-Err c =
    parsed_count c.args.word.now (Err c.in-Err.field-0) (sym c.if-begins_with_zero.ensures) (sym c.if-begins_with_plus.ensures)
    c.in-Err.ensures.value.0
