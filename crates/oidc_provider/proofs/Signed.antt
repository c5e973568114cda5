-- An ID token by HS256 is never refused, and its algorithm is read back.
use Rattle.std.proofs.Common.{◌≡◌, ℕ, List, length, ap, arith, None, Some, Result, Err, refl, subst, ⊎_elim}
use Rattle.oidc_members.specs.Seen.{OutSeen}
use Rattle.oidc_types.specs.{signing_text}
use Rattle.oidc_types.specs.declared.core_algorithms.CoreJwsSigningAlgorithm.TheVariants.{HmacSha256}
use Rattle.oidc_types.specs.declared.signing_error.SigningError.{SigningError}
use Rattle.oidc_keys.specs.CoreJwk.{hash_function, symmetric_signature}
use Rattle.oidc_tokens.specs.Hashes.{hashing, with_hashes}
use Rattle.oidc_tokens.specs.Issuing.{IsUnsigned, IsUnissued}
use Rattle.oidc_id_token_claims.specs.IdTokenClaims.{SeenIdTokenClaims}
use Rattle.oidc_types.specs.{find_word, signing_algorithms}
use Rattle.oidc_jwt.specs.Issuing.{IsNamed}
use Rattle.oidc_jwt.specs.declared.jwt.JsonWebTokenError.{JsonWebTokenError}
use Rattle.oidc_jwt.specs.declared.jwt.JsonWebTokenError.TheVariants as token_error

module _ {AC GC : Type 0} (secret token : List ℕ) (claims : SeenIdTokenClaims AC GC) (header : List OutSeen) where
  abbrev hashes : Result (SeenIdTokenClaims AC GC) SigningError
  hashes = with_hashes (hashing (signing_text HmacSha256) (hash_function HmacSha256)) (Some token) None claims

  no_missing_hash : (refusal : SigningError) → hashes ≡ Err refusal → ⊥
  unfolding with_hashes
  no_missing_hash refusal is = cc

  no_signer_refusal : (refusal : SigningError) → IsUnsigned hashes header (symmetric_signature secret HmacSha256) refusal → ⊥
  no_signer_refusal refusal unsigned =
      let is : symmetric_signature secret HmacSha256 unsigned.refuses.message ≡ Err refusal = unsigned.refuses.refused in cc

  pub never_unissued : (error : JsonWebTokenError) (refusal : SigningError) → error ≡ token_error.SigningError refusal
      → IsUnissued hashes header (symmetric_signature secret HmacSha256) error → ⊥
  never_unissued error refusal is unissued =
      ⊎_elim (no_missing_hash refusal) (no_signer_refusal refusal)
      (subst (λ e. IsUnissued hashes header (symmetric_signature secret HmacSha256) e) is unissued)

-- the text of HS256 names it
pub named : IsNamed signing_text (find_word signing_text signing_algorithms) HmacSha256
named = record { read_back = refl; other_than_none = λ same. omega (arith, ap length same) }
