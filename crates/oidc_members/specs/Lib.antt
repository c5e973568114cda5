pub mod Seen
pub mod Places
pub mod Objects
pub mod Write
pub mod Answers
-- what no public clause cites
pub mod Scan
pub mod Cut
pub mod Sight
pub mod Codes
pub use Rattle.serde_json.specs.Data
pub use Rattle.serde_json.specs.View
