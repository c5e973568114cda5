-- What the calls of a key answer, where there may be no memory.
use Rattle.std.specs.Prelude.{◌≡◌, List, ℕ, Option, None, Some, Result, Err}
use Rattle.oidc_types.specs.declared.signing_error.SigningError.{SigningError}
use Rattle.oidc_types.specs.declared.signing_error.SigningError.TheVariants as signing
use Rattle.oidc_keys.specs.declared.refusals.SignatureVerificationError.{SignatureVerificationError}
use Rattle.oidc_keys.specs.declared.refusals.SignatureVerificationError.TheVariants.{Memory}

-- a verdict: that a signature is one, or why it isn't
abbrev pub Verdict : Type 0
Verdict = Result (Unit {0}) SignatureVerificationError

-- the answer is the verdict, or want of memory
abbrev pub GivesVerdict : Verdict → Verdict → Type 0
GivesVerdict verdict (Err Memory) = Unit {0}
GivesVerdict verdict answer = answer ≡ verdict

-- the digest of some bytes by a hash function, where there is one
abbrev pub digest_by : Option (List ℕ → List ℕ) → List ℕ → Option (List ℕ)
digest_by None bytes = None
digest_by (Some hash) bytes = Some (hash bytes)

-- the refusal of a signer is the one that is meant, or want of memory
abbrev pub GivesRefusal : Result (List ℕ) SigningError → SigningError → Type 0
GivesRefusal meant signing.Memory = Unit {0}
GivesRefusal meant refusal = meant ≡ Err refusal
