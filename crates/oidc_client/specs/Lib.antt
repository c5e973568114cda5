-- In reading order: a client and what it makes; a provider's metadata, and the client that is made of it;
-- authorization requests, their pairs and their URLs.
pub mod Client
pub mod ProviderMetadata
pub mod Authorization
-- lower words that these cite
pub use Rattle.oidc_types.specs.{TextAndUrl}
pub use Rattle.oidc_user_info.specs.QueryPairs
-- what no public clause cites
pub mod Texts
