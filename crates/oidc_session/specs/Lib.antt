-- In reading order: the claims of a logout token; sessions, and what becomes of them; the checks of a logout token, and
-- what each answer to one rests on; a site's calls, one after another; logout tokens and ID tokens apart.
pub mod LogoutClaims
pub mod Sessions
pub mod LogoutTokens
pub mod LogoutCauses
pub mod Events
pub mod Apart
-- lower words that these cite
pub use Rattle.oidc_members.specs.Seen
pub use Rattle.oidc_oauth2.specs.Replies
-- what no public clause cites
pub mod LogoutFields
pub mod Stored
pub mod Codes
