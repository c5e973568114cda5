-- The lemmas that other crates may cite: how the places of an object lead to its members.

-- strings, escapes and levels, from one place to the next
pub use Rattle.oidc_members.proofs.Steps.{nothing_before, outside_more, escapes_more, opened_more, closed_more}
-- places, cut at commas and colons
pub use Rattle.oidc_members.proofs.Cutting.{all_places, all_fails, split_cut, split_uncut, halves_cut}
-- when a text is an object, and what its pieces are
pub use Rattle.oidc_members.proofs.Braces.{braced, pieces_cut}
-- what a value's bytes read as
pub use Rattle.oidc_members.proofs.BytesRead.{value_read}
