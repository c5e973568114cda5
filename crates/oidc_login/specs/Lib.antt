-- In reading order: what a site brings; pending logins, what a begin answers and what it leaves; when the store goes on with another client; what the query of a
-- callback names and the token request; its answer with the ID token and the hash in it; the request for user info; who
-- is signed in; the table of a callback, what each reply rests on, which logins are valid, and what a callback leaves of
-- a transport and of the store; begins and callbacks, one after another, each login by itself, and dealt to several stores.
-- Then the table of an implicit or a hybrid answer, and what each such answer rests on.
pub mod Types
pub mod Logins
pub mod Begin
pub mod Changes
pub mod BeforeRequest
pub mod Token
pub mod UserInfo
pub mod SignedIn
pub mod Errors
pub mod Callback
pub mod Causes
pub mod ValidLogin
pub mod Runs
pub mod Events
pub mod Isolation
pub mod FrontChannel
pub mod FrontCauses
-- lower words that these cite
pub use Rattle.oidc_pairs.specs.Pairs
pub use Rattle.oidc_pairs.specs.Form
pub use Rattle.oidc_members.specs.Seen
pub use Rattle.oidc_types.specs.{TextAndUrl}
pub use Rattle.oidc_oauth2.specs.Replies
pub use Rattle.oidc_oauth2.specs.Exchanges
-- what no public clause cites
pub mod Steps
pub mod Store
pub mod FrontSteps
