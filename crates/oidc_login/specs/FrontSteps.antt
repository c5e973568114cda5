-- What single functions of `front_channel` answer, between the rows of its table (`FrontChannel.antt`). No public clause
-- cites this.
use Rattle.std.specs.Prelude.{ℕ, ℤ, List, Bool, not, ◌||◌, Ok}
use Rattle.oidc_members.specs.declared.reading.Reading.{Reading}
use Rattle.oidc_types.specs.declared.signing_error.SigningError.{SigningError}
use Rattle.oidc_types.specs.declared.signing_error.SigningError.TheVariants as signing
use Rattle.oidc_oauth2.specs.Replies.{◌>>=◌, ◌>>◌, ◌when◌, ◌for◌, ◌or◌, ◌or_as◌}
use Rattle.oidc_tokens.specs.declared.verification.refusals.ClaimsVerificationError.{ClaimsVerificationError}
use Rattle.oidc_tokens.specs.declared.verification.refusals.ClaimsVerificationError.TheVariants as check
use Rattle.oidc_login.specs.Types.{SeenLoginClient, SiteTypes}
use Rattle.oidc_login.specs.BeforeRequest.{state_in, error_in}
use Rattle.oidc_login.specs.Token.{SeenIdToken, id_token_of, KeyVerifier, verifier_of, is_sent, failure_for}
use Rattle.oidc_login.specs.FrontChannel.{FrontReply, SeenFrontAnswer, front_answer, id_token_in, access_tokens_in, codes_in, is_several, token_hash_refusal, code_hash_refusal, has_other_token, has_other_code}
use Rattle.oidc_login.specs.declared.front.FrontError.{FrontError}
use Rattle.oidc_login.specs.declared.front.FrontError.TheVariants as refusal
use Rattle.oidc_login.specs.declared.front.FrontError.TheVariants.{State, Provider, NoIdToken, Parse, Claims, Signing, TokenHash, CodeHash}

-- the refusal by that of a hash
abbrev pub of_signing : SigningError → FrontError
of_signing signing.Memory = refusal.Memory
of_signing why = refusal.Signing why

-- the refusal by that of the checks of an ID token
abbrev pub of_check : ClaimsVerificationError → FrontError
of_check check.Memory = refusal.Memory
of_check kind = refusal.Claims kind

-- ---- rows of the table, those of one function at a time

-- those on the state and the error of a query
unfoldable pub checked_state : List ℕ → List (List ℕ × List ℕ) → FrontReply (Unit {0})
checked_state state query = do
  State when not (is_sent state (state_in query))
  Provider for error_in query

-- those on its access tokens and its codes, by whether the first of each fits what the ID token claims
abbrev pub checked_fits : List (List ℕ × List ℕ) → Bool → Bool → FrontReply (Unit {0})
checked_fits query token_fits code_fits = do
  TokenHash when is_several (access_tokens_in query) || not token_fits
  CodeHash when is_several (codes_in query) || not code_fits

module _ {AC GC Key Use : Type 0} (types : SiteTypes AC GC Key Use) where
  -- those on its ID token, under a reading
  unfoldable pub token_in : Reading → List (List ℕ × List ℕ) → FrontReply (SeenIdToken AC GC)
  token_in reading query = do
    text ← id_token_in query or NoIdToken
    id_token_of types reading text or_as Parse

  -- those on the hashes of what stands beside it, where that of a code may be demanded
  unfoldable pub checked_hashes : KeyVerifier Key → Bool → SeenIdToken AC GC → List (List ℕ × List ℕ) → FrontReply (Unit {0})
  checked_hashes v demanded token query = do
    Signing for token_hash_refusal types v token query
    Signing for code_hash_refusal types v token query
    TokenHash when has_other_token types v token query
    CodeHash when has_other_code types v token query demanded

  -- those on an ID token that was read
  unfoldable pub checked_token : SeenLoginClient Key → List ℕ → ℤ → List (List ℕ × List ℕ) → SeenIdToken AC GC
      → FrontReply (Unit {0})
  checked_token client nonce now query token = do
    Claims for failure_for types client nonce now token
    checked_hashes (verifier_of types client) client.code_hash_required token query

  -- and the answer with it
  abbrev pub answer_with : SeenLoginClient Key → List ℕ → ℤ → List (List ℕ × List ℕ) → SeenIdToken AC GC
      → FrontReply (SeenFrontAnswer AC GC)
  answer_with client nonce now query token = do
    checked_token client nonce now query token
    Ok (front_answer token query)

  -- those behind the state and the error
  unfoldable pub answer_in : SeenLoginClient Key → List ℕ → ℤ → List (List ℕ × List ℕ)
      → FrontReply (SeenFrontAnswer AC GC)
  answer_in client nonce now query = do
    token ← token_in client.reading query
    answer_with client nonce now query token
