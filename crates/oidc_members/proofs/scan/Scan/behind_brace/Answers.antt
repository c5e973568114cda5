use Rattle.std.proofs.Common.{arith}
use Rattle.oidc_members.specs.Places.{is_unescaped_quote}
use Rattle.oidc_members.proofs.Steps.{nothing_before, outside_more, escapes_more, opened_more, closed_more}
use Rattle.oidc_members.proofs.scan.Scan.behind_brace.Goals as goal

pub returns-clause-at : goal.returns-clause-at
unfolding is_unescaped_quote
returns-clause-at c =
    let text = c.args.text.now in
    let at_start = nothing_before text in
    let quote_more = outside_more text 0 in
    let escape_more = escapes_more text 0 (omega arith) in
    let open_more = opened_more text 0 in
    let close_more = closed_more text 0 in
    record {
      outside = grind (arith, at_start, quote_more);
      escapes = grind (arith, at_start, escape_more);
      level = grind (arith, at_start, open_more, close_more);
      bound = omega arith;
    }
