-- In reading order: the fields of an ID token that are no standard claims; all its claims, read and written;
-- which read back; homes of members; what a `&mut` to the additional claims leaves.
pub mod TokenFields
pub mod IdTokenClaims
pub mod RoundTrip
pub mod Homes
pub mod Lending
-- lower words that these cite
pub use Rattle.oidc_members.specs.Answers
pub use Rattle.oidc_members.specs.Seen
-- what no public clause cites
pub mod FieldSlots
pub mod Codes
