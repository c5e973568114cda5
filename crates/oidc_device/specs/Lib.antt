-- In reading order: what a program brings; the tokens of an answer; who is signed in; a login, its requests and its start;
-- a step; what each answer rests on; what a start and a step leave of a transport; whole runs of steps.
pub mod Types
pub mod Token
pub mod SignedIn
pub mod Errors
pub mod Logins
pub mod DeviceStep
pub mod Causes
pub mod Runs
pub mod Polite
-- lower words that these cite
pub use Rattle.oidc_oauth2.specs.Replies
pub use Rattle.oidc_oauth2.specs.Exchanges
-- what no public clause cites
pub mod Present
pub mod Steps
