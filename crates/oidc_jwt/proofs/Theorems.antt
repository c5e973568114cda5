-- Lemmas that other crates may cite.

-- members that are written: which may be written, and which hold no float
pub use Rattle.oidc_jwt.proofs.Issued.{may_be_written}
pub use Rattle.oidc_readers.proofs.Theorems.{free_append, standing_free}
-- members that were read: an object that was split holds no float, nor does the payload of a token
pub use Rattle.oidc_jwt.proofs.ReadBy.{after, same_ok, split_free, payload_said}
