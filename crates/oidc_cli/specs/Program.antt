-- The statuses that the program ends with.
use Rattle.std.specs.Prelude.{◌≡◌, ℕ, ◌++◌, List, Some}
use Rattle.oidc_cli.specs.Script.{fault_of}
use Rattle.oidc_cli.specs.Report.{fault_line, events_lines, events_before_fault, report}

-- The script's first fault is at this line, and its report is the lines of the events before it, and then its
-- line. Line 0, of a script that is too long, has no event before it.
pub record EndsInFault (script : List ℕ) : Type 0 where
  pub number : ℕ
  pub first_fault : fault_of script ≡ Some number
  pub ends : report script ≡ events_lines (events_before_fault script) ++ fault_line number
  pub alone : number ≡ 0 → report script ≡ fault_line 0
