-- In reading order: what a provider double is made with; its grants; the double as contracts see it; pairs of a query and of
-- a body; what `authorize` answers and why, and what it keeps; what a call answers, row by row, and why; a login over a provider that
-- behaves, by the definitions, and as a site's test makes it, in two calls.
pub mod Settings
pub mod Grants
pub mod Provider
pub mod Values
pub mod Authorization
pub mod AuthorizationCauses
pub mod Issuing
pub mod Keeping
pub mod Answers
pub mod AnswerCauses
pub mod Honest
pub mod SignIn
pub mod TwoCalls
-- lower words that these cite
pub use Rattle.oidc_pairs.specs.Pairs
pub use Rattle.oidc_pairs.specs.Form
pub use Rattle.oidc_oauth2.specs.Messages
pub use Rattle.oidc_oauth2.specs.Transport
-- what no public clause cites
pub mod Steps
pub mod Making
pub mod Rows
pub mod Store
