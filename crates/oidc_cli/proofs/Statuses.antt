-- What a status says of a script that was read.
use Rattle.std.proofs.Common.{◌≡◌, ◌⊎◌, inl, inr, ℕ, ◌<◌, ◌≤◌, nat_lt, length, List, ◌++◌, Option, None, Some, Bool, true, false, Result, Ok, Err, IfOk, OnOk, OnErr, IsErrOf, refl, sym, ap, ◌∙◌, arith, append-nil, length-append}
use Rattle.std.specs.Io.KnownBytes.{IsAtEnd}
use Rattle.std.proofs.lemmas.Bool.Decides.{nat_tests}
use Rattle.oidc_cli.specs.Sources.{Takes}
use Rattle.oidc_cli.specs.Script.{limit, fault_of}
use Rattle.oidc_cli.specs.Report.{fault_line, events_lines, events_before_fault, last_line, store_after_events, report}
use Rattle.oidc_cli.specs.Steps.{ending_of, status_after}
use Rattle.oidc_cli.specs.Program.{EndsInFault}
use Rattle.oidc_cli.specs.declared.replay.Ending.{Ending}
use Rattle.oidc_cli.specs.declared.replay.Ending.TheVariants.{Pending, Fault}
use Rattle.oidc_cli.specs.declared.replay.Halt.{Halt}
use Rattle.oidc_cli.specs.declared.replay.Halt.TheVariants.{Sink, Memory}
use Rattle.oidc_cli.proofs.Steps.{too_long_report, too_long_fault, fault_alone}

-- what was read has the fault and the report of the whole script
pub record SameReport (script read : List ℕ) : Type 0 where
  pub same_fault : fault_of script ≡ fault_of read
  pub same_report : report script ≡ report read

same_when : (script read left : List ℕ) (long : Bool) → nat_lt limit (length read) ≡ long → script ≡ read ++ left
    → (length read ≤ limit → IsAtEnd (Some left)) → SameReport script read
same_when script read left true test all ended =
    let r : limit < length read = grind (arith, nat_tests) in
    let s : limit < length script = omega (arith, ap length all, length-append {A = ℕ}) in
    record {
      same_fault = too_long_fault script s ∙ sym (too_long_fault read r);
      same_report = too_long_report script s ∙ sym (too_long_report read r);
    }
same_when script read left false test all ended =
    let short : length read ≤ limit = grind (arith, nat_tests) in
    let e : script ≡ read = all ∙ ap (λ l. read ++ l) (ended short) ∙ append-nil read in
    record { same_fault = ap fault_of e; same_report = ap report e }

some_is : (x y : List ℕ) → Some x ≡ Some y → x ≡ y
some_is x y e = cc

pub same_of : (before after : Option (List ℕ)) (script read : List ℕ) → before ≡ Some script → Takes before after read
    → (length read ≤ limit → IsAtEnd after) → SameReport script read
same_of before None script read known takes ended = absurd (let e : None ≡ Some script = sym takes ∙ known in cc)
same_of before (Some left) script read known takes ended =
    same_when script read left (nat_lt limit (length read)) refl (some_is script (read ++ left) (sym known ∙ takes)) ended

-- ---- endings

ends_alone : (script : List ℕ) (number : ℕ) → fault_of script ≡ Some number → number ≡ 0 → report script ≡ fault_line 0
ends_alone script number fault none = fault_alone script 0 (omega arith) (fault ∙ ap Some none)

-- by definition the report of a script with a fault ends in its line
pub ends_in_fault : (script : List ℕ) (number : ℕ) → fault_of script ≡ Some number → EndsInFault script
unfolding report
ends_in_fault script number fault = record {
  number = number;
  first_fault = fault;
  ends = ap (λ f. events_lines (events_before_fault script) ++ last_line f (store_after_events (events_before_fault script))) fault;
  alone = ends_alone script number fault;
}

no_fault : (fault : Option ℕ) → Pending ≡ ending_of fault → fault ≡ None
no_fault None e = refl
no_fault (Some n) e = absurd cc

some_fault : (fault : Option ℕ) → Fault ≡ ending_of fault → (n : ℕ) × (fault ≡ Some n)
some_fault None e = absurd cc
some_fault (Some n) e = (n, refl)

pub done_without_fault : (ended : Result Ending Halt) (read : List ℕ) → IfOk ended (λ e. e ≡ ending_of (fault_of read)) → status_after ended ≡ 0
    → fault_of read ≡ None
done_without_fault (Ok Pending) read ending status = no_fault (fault_of read) ending
done_without_fault (Ok Fault) read ending status = absurd (omega arith)
done_without_fault (Err Sink) read ending status = absurd (omega arith)
done_without_fault (Err Memory) read ending status = absurd (omega arith)

pub fault_with_line : (ended : Result Ending Halt) (read : List ℕ) → IfOk ended (λ e. e ≡ ending_of (fault_of read)) → status_after ended ≡ 3
    → (n : ℕ) × (fault_of read ≡ Some n)
fault_with_line (Ok Pending) read ending status = absurd (omega arith)
fault_with_line (Ok Fault) read ending status = some_fault (fault_of read) ending
fault_with_line (Err Sink) read ending status = absurd (omega arith)
fault_with_line (Err Memory) read ending status = absurd (omega arith)

pub whole_at : (ended : Result Ending Halt) (P : Type 0) → OnOk ended P → (status_after ended ≡ 0) ⊎ (status_after ended ≡ 3) → P
whole_at (Ok Pending) P whole status = whole
whole_at (Ok Fault) P whole status = whole
whole_at (Err Sink) P whole (inl zero_is) = absurd (omega arith)
whole_at (Err Sink) P whole (inr three_is) = absurd (omega arith)
whole_at (Err Memory) P whole (inl zero_is) = absurd (omega arith)
whole_at (Err Memory) P whole (inr three_is) = absurd (omega arith)

pub begun_at : (ended : Result Ending Halt) (P : Type 0) → OnErr ended P → (status_after ended ≡ 1) ⊎ (status_after ended ≡ 5) → P
begun_at (Ok Pending) P begun (inl one_is) = absurd (omega arith)
begun_at (Ok Pending) P begun (inr five_is) = absurd (omega arith)
begun_at (Ok Fault) P begun (inl one_is) = absurd (omega arith)
begun_at (Ok Fault) P begun (inr five_is) = absurd (omega arith)
begun_at (Err Sink) P begun status = begun
begun_at (Err Memory) P begun status = begun

short_when : (read : List ℕ) (long : Bool) → nat_lt limit (length read) ≡ long → fault_of read ≡ None → length read ≤ limit
short_when read true test none =
    absurd (let r : limit < length read = grind (arith, nat_tests) in let e : Some 0 ≡ None = sym (too_long_fault read r) ∙ none in cc)
short_when read false test none = grind (arith, nat_tests)

pub short_without_fault : (read : List ℕ) → fault_of read ≡ None → length read ≤ limit
short_without_fault read none = short_when read (nat_lt limit (length read)) refl none

pub completes : (ended : Result Ending Halt) (read : List ℕ) (Risen : Type 0) → IfOk ended (λ e. e ≡ ending_of (fault_of read)) → fault_of read ≡ None
    → (IsErrOf ended Sink → Risen) → ¬ Risen → (status_after ended ≡ 0) ⊎ (status_after ended ≡ 5)
completes (Ok Pending) read Risen ending none blamed calm = inl refl
completes (Ok Fault) read Risen ending none blamed calm = absurd (let f = some_fault (fault_of read) ending in let e : Some f.0 ≡ None = sym f.1 ∙ none in cc)
completes (Err Sink) read Risen ending none blamed calm = absurd (calm (blamed refl))
completes (Err Memory) read Risen ending none blamed calm = inr refl
