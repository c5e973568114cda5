-- What a call answers that judges claims, of the checks.
use Rattle.std.proofs.Common.{◌≡◌, Option, None, Some, refl, sym, ◌∙◌}
use Rattle.std.specs.Prelude.{Err}
use Rattle.oidc_tokens.specs.declared.verification.refusals.ClaimsVerificationError.{ClaimsVerificationError}
use Rattle.oidc_tokens.specs.declared.verification.refusals.ClaimsVerificationError.TheVariants.{Unsupported, InvalidIssuer, InvalidAudience, SignatureVerification, Expired, InvalidNonce, InvalidSubject, Memory}
use Rattle.oidc_tokens.specs.Verification.{Judges}

apart : (failure : Option ClaimsVerificationError) (e : ClaimsVerificationError) → failure ≡ Some e → failure ≡ None → ⊥
apart failure e h k = let both = sym h ∙ k in cc both

-- where no check fails, nothing but want of memory is refused
pub memory_alone : (C : Type 0) (failure : Option ClaimsVerificationError) (e : ClaimsVerificationError) → Judges {C = C} failure (Err e) → failure ≡ None → e ≡ Memory
memory_alone C failure Memory h k = refl
memory_alone C failure Unsupported h k = absurd (apart failure Unsupported h k)
memory_alone C failure InvalidIssuer h k = absurd (apart failure InvalidIssuer h k)
memory_alone C failure InvalidAudience h k = absurd (apart failure InvalidAudience h k)
memory_alone C failure (SignatureVerification r) h k = absurd (apart failure (SignatureVerification r) h k)
memory_alone C failure Expired h k = absurd (apart failure Expired h k)
memory_alone C failure InvalidNonce h k = absurd (apart failure InvalidNonce h k)
memory_alone C failure InvalidSubject h k = absurd (apart failure InvalidSubject h k)

-- a fact of each check that fails, and of want of memory
pub of_failure : (C : Type 0) (Fact : ClaimsVerificationError → Type 0) (failure : Option ClaimsVerificationError) (e : ClaimsVerificationError) → Judges {C = C} failure (Err e)
    → ((e : ClaimsVerificationError) → failure ≡ Some e → Fact e) → Fact Memory → Fact e
of_failure C Fact failure Memory h fails memory = memory
of_failure C Fact failure Unsupported h fails memory = fails Unsupported h
of_failure C Fact failure InvalidIssuer h fails memory = fails InvalidIssuer h
of_failure C Fact failure InvalidAudience h fails memory = fails InvalidAudience h
of_failure C Fact failure (SignatureVerification r) h fails memory = fails (SignatureVerification r) h
of_failure C Fact failure Expired h fails memory = fails Expired h
of_failure C Fact failure InvalidNonce h fails memory = fails InvalidNonce h
of_failure C Fact failure InvalidSubject h fails memory = fails InvalidSubject h

-- what is answered at one type is at another
pub judges_as : (C D : Type 0) (failure : Option ClaimsVerificationError) (e : ClaimsVerificationError) → Judges {C = C} failure (Err e) → Judges {C = D} failure (Err e)
judges_as C D failure Memory h = tt
judges_as C D failure Unsupported h = h
judges_as C D failure InvalidIssuer h = h
judges_as C D failure InvalidAudience h = h
judges_as C D failure (SignatureVerification r) h = h
judges_as C D failure Expired h = h
judges_as C D failure InvalidNonce h = h
judges_as C D failure InvalidSubject h = h
