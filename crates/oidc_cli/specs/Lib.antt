-- What the contracts of this crate cite: first what stands outside, then a script, what its lines say to logins, its
-- report, the drill, the words and the statuses. The words of `run` are passed on, so that a caller need not know the files.
pub mod Calls
pub mod Sources
pub mod Sinks
pub mod Events
pub mod Values
pub mod Script
pub mod Types
pub mod Logins
pub mod Report
pub mod Drill
pub mod Commands
pub mod Program
pub use Rattle.oidc_cli.specs.Calls.{HasRisen}
pub use Rattle.oidc_cli.specs.Sources.{Takes}
pub use Rattle.oidc_cli.specs.Sinks.{Puts, PutsPrefix}
pub use Rattle.oidc_cli.specs.Script.{fault_of}
pub use Rattle.oidc_cli.specs.Report.{report}
pub use Rattle.oidc_cli.specs.Drill.{drill_text}
pub use Rattle.oidc_cli.specs.Commands.{command_of, Asks}
pub use Rattle.oidc_cli.specs.Program.{EndsInFault}
-- what no public clause cites
pub mod Readers
pub mod Steps
