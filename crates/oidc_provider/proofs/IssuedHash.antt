-- Claims that are issued hold the hash of their access token, and are else as they were.
use Rattle.std.proofs.Common.{◌≡◌, ℕ, List, Option, None, Some, Result, Ok, sym, ap}
use Rattle.std.specs.Option.{ok_or}
use Rattle.oidc_types.specs.{signing_text}
use Rattle.oidc_types.specs.declared.signing_error.SigningError.{SigningError}
use Rattle.oidc_types.specs.declared.signing_error.SigningError.TheVariants.{UnsupportedAlg}
use Rattle.oidc_types.specs.declared.core_algorithms.CoreJwsSigningAlgorithm.TheVariants.{HmacSha256}
use Rattle.oidc_keys.specs.CoreJwk.{hash_function}
use Rattle.oidc_tokens.specs.Steps.{◌>>=◌}
use Rattle.oidc_tokens.specs.Hashes.{hash_text, with_hashes}
use Rattle.oidc_id_token_claims.specs.IdTokenClaims.{SeenIdTokenClaims}
use Rattle.oidc_provider.specs.Issuing.{hashed}

module _ {AC GC : Type 0} where
  abbrev with_hash : SeenIdTokenClaims AC GC → List ℕ → SeenIdTokenClaims AC GC
  with_hash claims hash = record claims { own = record claims.own { access_token_hash = Some hash } }

  same_Ok : (a b : SeenIdTokenClaims AC GC) → ◌≡◌ {A = Result (SeenIdTokenClaims AC GC) SigningError} (Ok a) (Ok b) → a ≡ b
  same_Ok a b h = cc

  pub record Hashed (hash : Option (List ℕ)) (claims payload : SeenIdTokenClaims AC GC) : Type 0 where
    pub own_hash : hash ≡ payload.own.access_token_hash
    pub subject : payload.standard_claims.subject ≡ claims.standard_claims.subject

  by_hash : (hash : Option (List ℕ)) (refusal : SigningError) (claims payload : SeenIdTokenClaims AC GC)
      → ((ok_or hash refusal >>= λ h. Ok (with_hash claims h)) >>= λ made. Ok made) ≡ Ok payload → Hashed hash claims payload
  by_hash None refusal claims payload is = absurd cc
  by_hash (Some hash) refusal claims payload is =
      let same : with_hash claims hash ≡ payload = same_Ok (with_hash claims hash) payload is in record {
        own_hash = ap (λ (x : SeenIdTokenClaims AC GC). x.own.access_token_hash) same;
        subject = sym (ap (λ (x : SeenIdTokenClaims AC GC). x.standard_claims.subject) same);
      }

  pub hashed_as : (token : List ℕ) (claims payload : SeenIdTokenClaims AC GC) → hashed token claims ≡ Ok payload
      → Hashed (hash_text (hash_function HmacSha256) token) claims payload
  unfolding with_hashes
  hashed_as token claims payload is =
      by_hash (hash_text (hash_function HmacSha256) token) (UnsupportedAlg (signing_text HmacSha256)) claims payload is
