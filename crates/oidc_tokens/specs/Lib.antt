-- In reading order: hashes; the checks of an ID token; those of one that comes with refreshed tokens; those of a
-- user info answer; the ID token of a token response; ID tokens that are issued, and who accepts them.
pub mod Hashes
pub mod Signatures
pub mod Verification
pub mod Causes
pub mod Refreshed
pub mod RefreshedCauses
pub mod UserInfoVerification
pub mod UserInfoCauses
pub mod IdTokenFields
pub mod Issuing
-- lower words that these cite
pub mod Steps
pub use Rattle.oidc_members.specs.Answers
pub use Rattle.oidc_members.specs.Seen
