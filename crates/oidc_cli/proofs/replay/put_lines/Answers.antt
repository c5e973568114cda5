use Rattle.std.proofs.Common.{◌≡◌, ◌+◌, ◌++◌, [], refl, sym, ap, ◌∙◌, arith}
use Rattle.std.specs.String.{string_bytes}
use Rattle.oidc_cli.specs.Script.{lines, fault_from}
use Rattle.oidc_cli.specs.Report.{fault_line, pending_line}
use Rattle.oidc_cli.specs.Steps.{event_lines, store_after, rest_of_report}
use Rattle.oidc_cli.proofs.Passing.{put_part, put_all, put_prefix, put_last_prefix, prefix_so_far, on_err, on_ok_weaker, on_err_weaker, pushed}
use Rattle.oidc_cli.proofs.Cuts.{lines_nil}
use Rattle.oidc_cli.proofs.Steps.{first_step, later_fault, fault_here, rest_at_fault, rest_at_end, same_rest}
use Rattle.oidc_cli.proofs.replay.put_lines.Goals as goal

pub returns-in_err-event-clause-begun : goal.returns-in_err-event-clause-begun
returns-in_err-event-clause-begun g c = on_err _ _ (prefix_so_far _ _ _ _ c.loop-line.invariant.put)

pub returns-in_err-push_step-clause-begun : goal.returns-in_err-push_step-clause-begun
returns-in_err-push_step-clause-begun g c = on_err _ _ (prefix_so_far _ _ _ _ c.loop-line.invariant.put)

pub returns-then-not-branch-clause-whole : goal.returns-then-not-branch-clause-whole
returns-then-not-branch-clause-whole g c =
    let s = c.loop-line in
    let other = sym c.in_ok-push_step.ensures.placed ∙ c.if-not-branch.true in
    let here = fault_here s.number c.in_ok-event.event (lines s.left.now) c.in-Some.line.now (lines c.in-Some.rest.now) c.in-Some.ensures.first c.in_ok-event.ensures other in
    let rest = rest_at_fault s.logins.client s.logins.pending s.number c.in_ok-event.event (lines s.left.now) other
    (fault_from 2 (lines c.args.script.now)) (sym s.invariant.fault ∙ here) in
    let so_far = pushed _ _ (string_bytes s.text) (event_lines s.logins.client s.logins.pending c.in_ok-event.event) (string_bytes c.push_step.new.text) (fault_line s.number) _ _
    c.in_ok-push_step.ensures.lines rest s.invariant.put in
    on_ok_weaker _ _ _ (put_all _ _ _ (string_bytes c.push_step.new.text ++ fault_line s.number) _ so_far) c.put_fault_behind.ensures.whole

pub returns-then-not-branch-clause-begun : goal.returns-then-not-branch-clause-begun
returns-then-not-branch-clause-begun g c =
    let s = c.loop-line in
    let other = sym c.in_ok-push_step.ensures.placed ∙ c.if-not-branch.true in
    let here = fault_here s.number c.in_ok-event.event (lines s.left.now) c.in-Some.line.now (lines c.in-Some.rest.now) c.in-Some.ensures.first c.in_ok-event.ensures other in
    let rest = rest_at_fault s.logins.client s.logins.pending s.number c.in_ok-event.event (lines s.left.now) other
    (fault_from 2 (lines c.args.script.now)) (sym s.invariant.fault ∙ here) in
    let so_far = pushed _ _ (string_bytes s.text) (event_lines s.logins.client s.logins.pending c.in_ok-event.event) (string_bytes c.push_step.new.text) (fault_line s.number) _ _
    c.in_ok-push_step.ensures.lines rest s.invariant.put in
    on_err_weaker _ _ _ (put_last_prefix _ _ _ (string_bytes c.push_step.new.text ++ fault_line s.number) _ so_far) c.put_fault_behind.ensures.begun

pub returns-then-not-branch-clause-ending : goal.returns-then-not-branch-clause-ending
returns-then-not-branch-clause-ending g c =
    let s = c.loop-line in
    let here = fault_here s.number c.in_ok-event.event (lines s.left.now) c.in-Some.line.now (lines c.in-Some.rest.now) c.in-Some.ensures.first c.in_ok-event.ensures
    (sym c.in_ok-push_step.ensures.placed ∙ c.if-not-branch.true) in
    rw (← s.invariant.fault, here) c.put_fault_behind.ensures.ending

pub returns-in_err-put_block-clause-begun : goal.returns-in_err-put_block-clause-begun
returns-in_err-put_block-clause-begun g c =
    let s = c.loop-line in
    let step = sym c.in_ok-push_step.ensures.placed ∙ c.if-not-branch.false in
    let cut = first_step s.logins.client s.logins.pending s.number c.in_ok-event.event (lines s.left.now) c.in-Some.line.now (lines c.in-Some.rest.now)
    c.in-Some.ensures.first c.in_ok-event.ensures step (fault_from 2 (lines c.args.script.now)) s.invariant.fault in
    let later = rest_of_report s.logins.client (store_after s.logins.client s.logins.pending c.in_ok-event.event) (s.number + 1) (lines c.in-Some.rest.now) (fault_from 2 (lines c.args.script.now)) in
    let so_far = pushed _ _ (string_bytes s.text) (event_lines s.logins.client s.logins.pending c.in_ok-event.event) (string_bytes c.push_step.new.text) later _ _
    c.in_ok-push_step.ensures.lines cut s.invariant.put in
    on_err _ _ (put_prefix _ _ _ (string_bytes c.push_step.new.text) later _ so_far c.in_err-put_block.ensures.begun)

pub loop-line-preserved : goal.loop-line-preserved
loop-line-preserved g c =
    let s = c.loop-line in
    let step = sym c.in_ok-push_step.ensures.placed ∙ c.if-not-branch.false in
    let cut = first_step s.logins.client s.logins.pending s.number c.in_ok-event.event (lines s.left.now) c.in-Some.line.now (lines c.in-Some.rest.now)
    c.in-Some.ensures.first c.in_ok-event.ensures step (fault_from 2 (lines c.args.script.now)) s.invariant.fault in
    let later = rest_of_report s.logins.client (store_after s.logins.client s.logins.pending c.in_ok-event.event) (s.number + 1) (lines c.in-Some.rest.now) (fault_from 2 (lines c.args.script.now)) in
    let so_far = pushed _ _ (string_bytes s.text) (event_lines s.logins.client s.logins.pending c.in_ok-event.event) (string_bytes c.push_step.new.text) later _ _
    c.in_ok-push_step.ensures.lines cut s.invariant.put in
    let same = same_rest s.logins.client c.push_step.new.logins.client (store_after s.logins.client s.logins.pending c.in_ok-event.event) c.push_step.new.logins.pending
    (s.number + 1) (lines c.in-Some.rest.now) (fault_from 2 (lines c.args.script.now)) c.in_ok-push_step.ensures.client c.in_ok-push_step.ensures.store in
    record {
      put = put_part _ _ _ (string_bytes c.push_step.new.text) (string_bytes c.put_block.new.text) _ _ (rw same at so_far) c.in_ok-put_block.ensures.part;
      fault = sym (later_fault s.number c.in_ok-event.event (lines s.left.now) c.in-Some.line.now (lines c.in-Some.rest.now) c.in-Some.ensures.first c.in_ok-event.ensures step)
          ∙ s.invariant.fault;
      same = c.in_ok-push_step.ensures.client ∙ s.invariant.same;
      counts = omega arith;
      numbered = let shorter = c.in-Some.ensures.shorter in omega arith;
    }

pub returns-clause-ending : goal.returns-clause-ending
returns-clause-ending g c =
    let s = c.loop-line in
    let none : lines s.left.now ≡ [] = ap lines (c.in_default.ensures.none.0 refl) ∙ lines_nil in
    let end = rest_at_end s.logins.client s.logins.pending s.number (lines s.left.now) none (fault_from 2 (lines c.args.script.now)) s.invariant.fault in
    rw end.0 c.put_pending.ensures.ending

pub returns-clause-whole : goal.returns-clause-whole
returns-clause-whole g c =
    let s = c.loop-line in
    let none : lines s.left.now ≡ [] = ap lines (c.in_default.ensures.none.0 refl) ∙ lines_nil in
    let end = rest_at_end s.logins.client s.logins.pending s.number (lines s.left.now) none (fault_from 2 (lines c.args.script.now)) s.invariant.fault in
    on_ok_weaker _ _ _ (put_all _ _ _ (string_bytes s.text ++ pending_line s.logins.pending) _ (rw end.1 at s.invariant.put)) c.put_pending.ensures.whole

pub returns-clause-begun : goal.returns-clause-begun
returns-clause-begun g c =
    let s = c.loop-line in
    let none : lines s.left.now ≡ [] = ap lines (c.in_default.ensures.none.0 refl) ∙ lines_nil in
    let end = rest_at_end s.logins.client s.logins.pending s.number (lines s.left.now) none (fault_from 2 (lines c.args.script.now)) s.invariant.fault in
    on_err_weaker _ _ _ (put_last_prefix _ _ _ (string_bytes s.text ++ pending_line s.logins.pending) _ (rw end.1 at s.invariant.put)) c.put_pending.ensures.begun
