-- No check of an ID token fails exactly where the client accepts it, and none wants memory.
use Rattle.std.proofs.Common.{◌≡◌, ◌≢◌, ℕ, ℤ, List, false, None, Some, Err, refl}
use Rattle.oidc_types.specs.declared.core_algorithms.CoreJwsSigningAlgorithm.{CoreJwsSigningAlgorithm}
use Rattle.oidc_keys.specs.declared.refusals.SignatureVerificationError.TheVariants as signature
use Rattle.oidc_tokens.specs.Refreshed.{any_nonce}
use Rattle.oidc_tokens.specs.declared.verification.refusals.ClaimsVerificationError.{ClaimsVerificationError}
use Rattle.oidc_tokens.specs.declared.verification.refusals.ClaimsVerificationError.TheVariants as check
use Rattle.oidc_tokens.proofs.Theorems as tokens
use Rattle.oidc_device.specs.Types.{DeviceTypes, SeenDeviceClient}
use Rattle.oidc_device.specs.Token.{SeenIdToken, device_verifier, IsAcceptedBy, failure_for}
use Rattle.oidc_device.specs.Errors.{is_wanting}

abbrev pub wanting : ClaimsVerificationError
wanting = check.SignatureVerification signature.Memory

-- a kind that is neither
pub never_wanted : (e : ClaimsVerificationError) → e ≢ check.Memory → e ≢ wanting → is_wanting e ≡ false
never_wanted check.Unsupported own inside = refl
never_wanted check.InvalidIssuer own inside = refl
never_wanted check.InvalidAudience own inside = refl
never_wanted (check.SignatureVerification signature.AmbiguousKeyId) own inside = refl
never_wanted (check.SignatureVerification signature.CryptoError) own inside = refl
never_wanted (check.SignatureVerification signature.DisallowedAlg) own inside = refl
never_wanted (check.SignatureVerification signature.InvalidKey) own inside = refl
never_wanted (check.SignatureVerification signature.NoMatchingKey) own inside = refl
never_wanted (check.SignatureVerification signature.NoSignature) own inside = refl
never_wanted (check.SignatureVerification signature.UnsupportedAlg) own inside = refl
never_wanted check.Expired own inside = refl
never_wanted check.InvalidNonce own inside = refl
never_wanted check.InvalidSubject own inside = refl
never_wanted (check.SignatureVerification signature.Memory) own inside = absurd (inside refl)
never_wanted check.Memory own inside = absurd (own refl)

module _ {AC GC Key Use : Type 0} (types : DeviceTypes AC GC Key Use) where
  pub accepts : (client : SeenDeviceClient Key) (now : ℤ) (token : SeenIdToken AC GC) → failure_for types client now token ≡ None → IsAcceptedBy types client now token
  accepts client now token none = (tokens.none_fails types.keys (device_verifier types client) any_nonce now token).0 none

  pub accepted : (client : SeenDeviceClient Key) (now : ℤ) (token : SeenIdToken AC GC) → IsAcceptedBy types client now token → failure_for types client now token ≡ None
  accepted client now token accepts = (tokens.none_fails types.keys (device_verifier types client) any_nonce now token).1 accepts

  -- the law of keys
  abbrev pub NeverWants : Type 0
  NeverWants = (key : Key) (alg : CoreJwsSigningAlgorithm) (message made : List ℕ) → types.keys.keys.verdict key alg message made ≢ Err signature.Memory

  pub never_wanting : NeverWants → (client : SeenDeviceClient Key) (now : ℤ) (token : SeenIdToken AC GC) → failure_for types client now token ≢ Some wanting
  never_wanting law client now token =
      tokens.never_memory_inside types.keys law (device_verifier types client) any_nonce now token

  pub never_memory : (client : SeenDeviceClient Key) (now : ℤ) (token : SeenIdToken AC GC) → failure_for types client now token ≢ Some check.Memory
  never_memory client now token = tokens.never_memory types.keys (device_verifier types client) any_nonce now token
