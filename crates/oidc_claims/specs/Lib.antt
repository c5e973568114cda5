-- Words of the crates below that public clauses cite
pub use Rattle.oidc_members.specs.Answers
pub use Rattle.oidc_members.specs.Objects
pub use Rattle.oidc_readers.specs.Passes
pub use Rattle.oidc_readers.specs.WrittenBack
-- The claims and their table
pub mod Table
pub mod Seen
pub mod Home
-- What is read
pub mod Address
pub mod Claims
pub mod Standard
pub mod Slots
pub mod Reader
pub mod Gender
pub mod Additional
pub mod Others
-- What is written
pub mod Write
-- Equality
pub mod SameClaims
pub mod Same
-- For private clauses
pub mod SeenCode
