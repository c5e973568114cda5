-- Lemmas that other crates may cite: members of claims by their home, and claims that were written. Where they speak
-- of fields, these are any fields none of which has the name of a standard claim.
pub use Rattle.oidc_id_token_claims.proofs.Homes.{additional_stay}
pub use Rattle.oidc_id_token_claims.proofs.OneHome.{no_claim, one_home, is_field_name, field_same, accepted_parts}
pub use Rattle.oidc_id_token_claims.proofs.FieldsRule.{judged_outside, judged_narrowed}
pub use Rattle.oidc_id_token_claims.proofs.Passing.{passes_apart, passes_both, no_fault}
pub use Rattle.oidc_id_token_claims.proofs.FieldsBack.{texts_back}
pub use Rattle.oidc_id_token_claims.proofs.PartsKept.{fields_kept, standard_kept, additional_kept, standard_clean, standard_there, behind, before, each_stands, outs_back}
pub use Rattle.oidc_id_token_claims.proofs.ClaimsBack.{texts_stand, text_stands, comes_back}
pub use Rattle.oidc_id_token_claims.proofs.FloatFree.{members_free}
-- one step of reading after another
pub use Rattle.oidc_id_token_claims.proofs.ReadSteps.{stops, gives}
