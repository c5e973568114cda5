-- In reading order: the header of a token, tokens read, tokens issued.
pub mod Header
pub mod Tokens
pub mod Issuing
-- lower words that these cite
pub use Rattle.oidc_members.specs.Answers
pub use Rattle.oidc_members.specs.Seen
-- what no public clause cites
pub mod HeaderFields
pub mod Encoded
