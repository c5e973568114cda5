pub mod LoginSecrets
-- The words of oidc_login that its contracts cite, passed on for those of a site.
pub use Rattle.oidc_login.specs.Pairs
pub use Rattle.oidc_login.specs.Replies
pub use Rattle.oidc_login.specs.Exchanges
pub use Rattle.oidc_login.specs.Types
pub use Rattle.oidc_login.specs.Logins
pub use Rattle.oidc_login.specs.Begin
pub use Rattle.oidc_login.specs.Changes
pub use Rattle.oidc_login.specs.BeforeRequest
pub use Rattle.oidc_login.specs.Token
pub use Rattle.oidc_login.specs.UserInfo
pub use Rattle.oidc_login.specs.SignedIn
pub use Rattle.oidc_login.specs.Errors
pub use Rattle.oidc_login.specs.Callback
pub use Rattle.oidc_login.specs.Causes
pub use Rattle.oidc_login.specs.ValidLogin
pub use Rattle.oidc_login.specs.Runs
pub use Rattle.oidc_login.specs.Events
pub use Rattle.oidc_login.specs.FrontChannel
pub use Rattle.oidc_login.specs.FrontCauses
-- The same of oidc_session. Its calls, one after another, have a name of their own here, beside the events of logins.
pub use Rattle.oidc_session.specs.LogoutClaims
pub use Rattle.oidc_session.specs.Sessions
pub use Rattle.oidc_session.specs.LogoutTokens
pub use Rattle.oidc_session.specs.LogoutCauses
pub use Rattle.oidc_session.specs.Events as SessionEvents
pub use Rattle.oidc_session.specs.Apart
