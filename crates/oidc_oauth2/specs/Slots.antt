-- The slot of a field, as the readers of this crate's records keep it.
pub use Rattle.oidc_readers.specs.Slots.{slot}
