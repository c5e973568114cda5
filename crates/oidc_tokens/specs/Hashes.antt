-- The hash of an access token or of a code that an ID token holds (OpenID Connect Core 1.0 sections
-- 3.1.3.6 and 3.3.2.11).
use Rattle.std.specs.Prelude.{◌≡◌, ℕ, ◌/◌, List, length, take, Option, None, Some, option_map, Result, Ok, Err}
use Rattle.std.specs.Option.{ok_or}
use Rattle.oidc_keys.specs.Jwk.{digest_by}
use Rattle.oidc_types.specs.declared.signing_error.SigningError.{SigningError}
use Rattle.oidc_types.specs.declared.signing_error.SigningError.TheVariants.{UnsupportedAlg, Memory}
use Rattle.oidc_tokens.specs.Steps.{◌>>=◌}
use Rattle.oidc_jwt.specs.Issuing.{encoded}
use Rattle.oidc_id_token_claims.specs.IdTokenClaims.{SeenIdTokenClaims}

-- the first half of a digest, rounded down
abbrev pub left_half : List ℕ → List ℕ
left_half digest = take (length digest / 2) digest

-- The base64url text of the first half of a text's digest, by the hash function that goes with the
-- algorithm, where there is one.
abbrev pub hash_text : Option (List ℕ → List ℕ) → List ℕ → Option (List ℕ)
hash_text hash text = option_map (λ digest. encoded (left_half digest)) (digest_by hash text)

-- An algorithm and the hash function that goes with it, where there is one.
pub record Hashing : Type 0 where
  pub alg_text : List ℕ
  pub hash : Option (List ℕ → List ℕ)

abbrev pub hashing : List ℕ → Option (List ℕ → List ℕ) → Hashing
hashing alg_text hash = record { alg_text = alg_text; hash = hash }

-- the hash, or the refusal that names the algorithm
abbrev pub hash_or_refusal : Hashing → List ℕ → Result (List ℕ) SigningError
hash_or_refusal by text = ok_or (hash_text by.hash text) (UnsupportedAlg by.alg_text)

-- ---- in the claims of a token that is issued

module _ {AC GC : Type 0} (by : Hashing) where
  -- the hash of the access token, where there is one; else the claim stays as it was
  abbrev pub with_token_hash : Option (List ℕ) → SeenIdTokenClaims AC GC
      → Result (SeenIdTokenClaims AC GC) SigningError
  with_token_hash None claims = Ok claims
  with_token_hash (Some token) claims = do
    hash ← hash_or_refusal by token
    Ok (record claims { own = record claims.own { access_token_hash = Some hash } })

  -- the same of the code
  abbrev pub with_code_hash : Option (List ℕ) → SeenIdTokenClaims AC GC
      → Result (SeenIdTokenClaims AC GC) SigningError
  with_code_hash None claims = Ok claims
  with_code_hash (Some code) claims = do
    hash ← hash_or_refusal by code
    Ok (record claims { own = record claims.own { code_hash = Some hash } })

  -- the claims with the hashes of what is issued beside the token
  unfoldable pub with_hashes : Option (List ℕ) → Option (List ℕ) → SeenIdTokenClaims AC GC
      → Result (SeenIdTokenClaims AC GC) SigningError
  with_hashes token code claims = do
    hashed ← with_token_hash token claims
    with_code_hash code hashed

-- ---- what a call answers

-- The answer is the hash or the refusal that is meant, or `Memory`.
abbrev pub GivesHash : {T : Type 0} → Result T SigningError → Result T SigningError → Type 0
GivesHash meant (Err Memory) = Unit {0}
GivesHash meant answer = answer ≡ meant
