-- In reading order: the pass over a list, moments and the kinds of values, a field, a record, what a slot
-- holds, what is written. Lower words that these definitions cite follow.
pub mod Passes
pub mod Moments
pub mod MomentTexts
pub mod Kinds
pub mod Fields
pub mod Records
pub mod Slots
pub mod Writing
pub mod WrittenBack
pub use Rattle.oidc_members.specs.Answers
pub use Rattle.oidc_members.specs.Seen
pub use Rattle.oidc_types.specs.{TextAndUrl}
