-- Lemmas that other crates may cite: the checks of an ID token, of one that came with refreshed tokens, and of user
-- info that is a token, are those of acceptance, and each that fails has its cause; no check fails for want of memory;
-- what was read holds no float.
pub use Rattle.oidc_tokens.proofs.Accepted.{fails_unless_accepted as none_fails}
pub use Rattle.oidc_tokens.proofs.Causes.{failure_cause}
pub use Rattle.oidc_tokens.proofs.NeverMemory.{never_memory, never_memory_inside, info_never_memory, info_never_memory_inside}
pub use Rattle.oidc_tokens.proofs.ReadFree.{token_free, response_free}
pub use Rattle.oidc_tokens.proofs.UserInfo.{about, about_back, about_another, info_accepts, info_accepted, info_failure_cause}
pub use Rattle.oidc_tokens.proofs.Judged.{memory_alone, of_failure, judges_as}
pub use Rattle.oidc_tokens.proofs.RefreshedRows.{refreshed_accepts, refreshed_accepted}
pub use Rattle.oidc_tokens.proofs.RefreshedWhy.{refreshed_why}
