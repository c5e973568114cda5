-- Lemmas that other crates may cite: that claims which are written may stand in an object, and read back. `all_kept` is that `AllOtherClaims` keep
-- all additional members. The lemmas of `Bases` say that members which no standard claim names change nothing of
-- the claims.
pub use Rattle.oidc_claims.proofs.Seconds.{whole_second}
pub use Rattle.oidc_claims.proofs.MayStand.{EachStands, moments_stand, written_stands}
pub use Rattle.oidc_claims.proofs.NoFloat.{written_free}
pub use Rattle.oidc_claims.proofs.Kept.{all_kept}
pub use Rattle.oidc_claims.proofs.Bases.{moment_stands, standard_name, is_standard, is_claim, narrowed, standard_same, fault_outside, fault_narrowed, claims_by, are_standard, standard_named}
pub use Rattle.oidc_claims.proofs.SplitBack.{split_reads_back}
pub use Rattle.oidc_readers.proofs.Theorems.{value_has_texts, utf8_pushed}
