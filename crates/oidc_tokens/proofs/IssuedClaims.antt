-- What issuing an ID token answers, of claims that have their hashes.
use Rattle.std.proofs.Common.{◌≡◌, ℕ, List, Option, Some, Result, Ok, Err, sym, ap, subst, inr}
use Rattle.oidc_types.specs.declared.signing_error.SigningError.{SigningError}
use Rattle.oidc_types.specs.declared.signing_error.SigningError.TheVariants.{CryptoError, UnsupportedAlg, Other, Memory}
use Rattle.oidc_members.specs.Seen.{OutSeen}
use Rattle.oidc_jwt.specs.declared.jwt.JsonWebTokenError.{JsonWebTokenError}
use Rattle.oidc_jwt.specs.declared.jwt.JsonWebTokenError.TheVariants as token_error
use Rattle.oidc_tokens.specs.Steps.{◌>>=◌, and_then}
use Rattle.oidc_jwt.specs.Issuing.{Issues, IsRefusedBy}
use Rattle.oidc_tokens.specs.Issuing.{IsUnissued}
use Rattle.oidc_tokens.specs.Hashes.{Hashing, hash_or_refusal, with_token_hash, with_code_hash, GivesHash}
use Rattle.oidc_id_token_claims.specs.IdTokenClaims.{SeenIdTokenClaims}

module _ {P : Type 0} (hashed : Result P SigningError) where
  -- what is issued of claims that have their hashes
  pub issues_after : {T : Type 0} (claims : P) (issue : P → Result T SigningError) (answer : Result T JsonWebTokenError) → Ok claims ≡ hashed → Issues (issue claims) answer → Issues (and_then hashed issue) answer
  issues_after claims issue answer is h = subst (λ (o : Result P SigningError). Issues (and_then o issue) answer) is h

  -- nor are they issued, where the signer refuses
  pub unissued_after : (claims : P) (header : List OutSeen) (signs : List ℕ → Result (List ℕ) SigningError) (error : JsonWebTokenError) → Ok claims ≡ hashed → IsRefusedBy header signs error
      → IsUnissued hashed header signs error
  unissued_after claims header signs (token_error.SigningError refusal) is refuses = inr (record { payload = claims; own_hashes = sym is; refuses = refuses })
  unissued_after claims header signs token_error.Memory is refuses = tt

-- ---- a hash that doesn't exist, on the way

hash_stops : {A B : Type 0} (hash : Result A SigningError) (next : A → Result B SigningError) (refusal : SigningError) → GivesHash hash (Err refusal) → GivesHash (hash >>= next) (Err refusal)
hash_stops hash next CryptoError h = ap (λ o. o >>= next) h
hash_stops hash next (UnsupportedAlg text) h = ap (λ o. o >>= next) h
hash_stops hash next (Other text) h = ap (λ o. o >>= next) h
hash_stops hash next Memory h = tt

module _ {AC GC : Type 0} (by : Hashing) (claims : SeenIdTokenClaims AC GC) (refusal : SigningError) where
  pub token_refused : (o : Option (List ℕ)) (token : List ℕ) → o ≡ Some token → GivesHash (hash_or_refusal by token) (Err refusal) → GivesHash (with_token_hash by o claims) (Err refusal)
  token_refused o token is h =
      subst (λ o. GivesHash (with_token_hash by o claims) (Err refusal)) (sym is)
      (hash_stops (hash_or_refusal by token) (λ hash. Ok (record claims { own = record claims.own { access_token_hash = Some hash } })) refusal h)

  pub code_refused : (o : Option (List ℕ)) (code : List ℕ) → o ≡ Some code → GivesHash (hash_or_refusal by code) (Err refusal) → GivesHash (with_code_hash by o claims) (Err refusal)
  code_refused o code is h =
      subst (λ o. GivesHash (with_code_hash by o claims) (Err refusal)) (sym is)
      (hash_stops (hash_or_refusal by code) (λ hash. Ok (record claims { own = record claims.own { code_hash = Some hash } })) refusal h)
