pub mod Pairs
pub mod Form
-- what no public clause cites
pub mod Decoding
pub use Rattle.form_urlencoded.specs.Form.{pair_text}
