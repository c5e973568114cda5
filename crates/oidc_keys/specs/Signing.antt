-- What a signing key promises.
use Rattle.std.specs.Prelude.{◌≡◌, ◌≢◌, List, ℕ, Result, Ok, Err}
use Rattle.oidc_types.specs.declared.signing_error.SigningError.{SigningError}
use Rattle.oidc_types.specs.declared.signing_error.SigningError.TheVariants.{Memory}
use Rattle.oidc_keys.specs.declared.jwk.JsonWebKey.{Ghosts as Keys}

module _ {Key Use Algorithm Kind : Type 0} (keys : Keys Key Use Algorithm Kind) where
  -- the signature is one of the message under the key by the algorithm
  abbrev pub Verifies : Key → Algorithm → List ℕ → List ℕ → Type 0
  Verifies key algorithm message signature = keys.verdict key algorithm message signature ≡ Ok tt

  -- each signature that a signer makes verifies under its verification key
  abbrev pub SignsTruly : {Signer : Type 0} → (Signer → Key)
      → (Signer → Algorithm → List ℕ → Result (List ℕ) SigningError) → Type 0
  SignsTruly {Signer} verification_key signs =
      (signer : Signer) (algorithm : Algorithm) (message signature : List ℕ)
      → signs signer algorithm message ≡ Ok signature
      → Verifies (verification_key signer) algorithm message signature

-- no refusal of a signer is want of memory
abbrev pub NeverMemory : {Signer Algorithm : Type 0}
    → (Signer → Algorithm → List ℕ → Result (List ℕ) SigningError) → Type 0
NeverMemory {Signer} {Algorithm} signs =
    (signer : Signer) (algorithm : Algorithm) (message : List ℕ) → signs signer algorithm message ≢ Err Memory
