-- what proofs of crates above may cite: tags are totally ordered, a map that is made anew of the entries
-- of another, and a text that no word of a list has
pub use Rattle.oidc_types.proofs.Entries.{tags_total}
pub use Rattle.oidc_types.proofs.Copies.{from_entries-append, append-next, from_entries-entries}
pub use Rattle.oidc_types.proofs.Unknown.{IsUnknown, none_found, exact}
