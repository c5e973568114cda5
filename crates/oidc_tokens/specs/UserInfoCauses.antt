-- Why a user info answer that is a token isn't accepted: each cause by itself, of which no other check is a
-- part (OpenID Connect Core 1.0 sections 5.3.2 and 5.3.4).
use Rattle.std.specs.Prelude.{◌≡◌, ◌≢◌, ◌⊎◌, ℕ, List, Some, IsTrue}
use Rattle.oidc_tokens.specs.declared.verification.refusals.ClaimsVerificationError.{ClaimsVerificationError}
use Rattle.oidc_tokens.specs.declared.verification.refusals.ClaimsVerificationError.TheVariants.{Unsupported, InvalidIssuer, InvalidAudience, SignatureVerification, Expired, InvalidNonce, InvalidSubject, Memory}
use Rattle.oidc_jwt.specs.Tokens.{SeenToken}
use Rattle.oidc_tokens.specs.Signatures.{KeyMeanings}
use Rattle.oidc_tokens.specs.Causes.{AsksTooMuch, KeyIsAtFault, KeySays}
use Rattle.oidc_tokens.specs.UserInfoVerification.{SeenUserInfoVerifier, Parties, IsIssuedBy, NamesAlone, without_secret}

module _ {Key Use Algorithm Type' : Type 0} (k : KeyMeanings Key Use Algorithm Type') {JE P : Type 0}
    (v : SeenUserInfoVerifier Key) (token : SeenToken JE Algorithm P) (named : Parties) where
  abbrev pub InfoTokenCause : ClaimsVerificationError → Type 0
  InfoTokenCause Unsupported = AsksTooMuch token.header
  InfoTokenCause InvalidIssuer = IsTrue v.issuer_match × (IsIssuedBy v.issuer.text named.issuer → ⊥)
  InfoTokenCause InvalidAudience = IsTrue v.audience_match × (NamesAlone v.client_id named.audiences → ⊥)
  InfoTokenCause (SignatureVerification refusal) =
      KeyIsAtFault k (without_secret v) token refusal ⊎ KeySays k (without_secret v) token refusal
  InfoTokenCause InvalidSubject =
      (expected : List ℕ) × (v.expected_subject ≡ Some expected) × (named.subject ≢ expected)
  InfoTokenCause Expired = ⊥
  InfoTokenCause InvalidNonce = ⊥
  InfoTokenCause Memory = Unit {0}
