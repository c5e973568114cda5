-- The table of an implicit or a hybrid answer: what `front_channel` says of a query, a line a refusal, from the first test
-- to the last (OpenID Connect Core 1.0 sections 3.2.2 and 3.3.2). Its words are those of the table of a callback.
use Rattle.std.specs.Prelude.{ℕ, ℤ, List, Bool, true, false, not, ◌&&◌, ◌||◌, Option, is_some, is_none, Result, Ok, codes}
use Rattle.oidc_pairs.specs.Pairs.{pairs, values_in, first_of, only_of}
use Rattle.oidc_types.specs.declared.signing_error.SigningError.{SigningError}
use Rattle.oidc_types.specs.declared.signing_error.SigningError.TheVariants as signing
use Rattle.oidc_oauth2.specs.Replies.{◌>>=◌, ◌>>◌, ◌when◌, ◌for◌, ◌or◌, ◌or_as◌, ErrorMeaning}
use Rattle.oidc_oauth2.specs.TokenAnswers.{is_over_long}
use Rattle.oidc_login.specs.Types.{SeenLoginClient, SiteTypes}
use Rattle.oidc_login.specs.BeforeRequest.{state_in, error_in}
use Rattle.oidc_login.specs.Token.{SeenIdToken, id_token_of, KeyVerifier, verifier_of, is_sent, failure_for, claimed_hash, claimed_code_hash, refusal_beside, is_another_beside, lacks_claim}
use Rattle.oidc_login.specs.Errors.{is_wanting}
use Rattle.oidc_login.specs.declared.front.FrontError.{FrontError}
use Rattle.oidc_login.specs.declared.front.FrontError.TheVariants as refusal
use Rattle.oidc_login.specs.declared.front.FrontError.TheVariants.{TooLong, State, Provider, NoIdToken, Parse, Claims, Signing, TokenHash, CodeHash}

-- a value, or the refusal of the first row that holds
abbrev pub FrontReply : Type 0 → Type 0
FrontReply A = Result A FrontError

-- What the answer is judged by: a client, the query that came back, the state and the nonce of the request, and a moment
-- (nanoseconds since the Unix epoch).
pub record FrontAttempt (Key : Type 0) : Type 0 where
  pub client : SeenLoginClient Key
  pub query : List ℕ
  pub state : List ℕ
  pub nonce : List ℕ
  pub now : ℤ

abbrev pub front_attempt : {Key : Type 0} → SeenLoginClient Key → List ℕ → List ℕ → List ℕ → ℤ → FrontAttempt Key
front_attempt client query state nonce now =
    record { client = client; query = query; state = state; nonce = nonce; now = now }

-- ---- the query

-- the one ID token, all access tokens and all codes among the pairs of a query
abbrev pub id_token_in : List (List ℕ × List ℕ) → Option (List ℕ)
id_token_in query = only_of (values_in query (codes "id_token"))

abbrev pub access_tokens_in : List (List ℕ × List ℕ) → List (List ℕ)
access_tokens_in query = values_in query (codes "access_token")

abbrev pub codes_in : List (List ℕ × List ℕ) → List (List ℕ)
codes_in query = values_in query (codes "code")

-- There are several: a first one, and not one alone.
abbrev pub is_several : List (List ℕ) → Bool
is_several values = is_some (first_of values) && is_none (only_of values)

-- an ID token, and the one access token and the one code beside it, where there is one
pub record SeenFrontAnswer (AC GC : Type 0) : Type 0 where
  pub id_token : SeenIdToken AC GC
  pub access_token : Option (List ℕ)
  pub code : Option (List ℕ)

abbrev pub front_answer : {AC GC : Type 0} → SeenIdToken AC GC → List (List ℕ × List ℕ) → SeenFrontAnswer AC GC
front_answer token query = record {
  id_token = token;
  access_token = only_of (access_tokens_in query);
  code = only_of (codes_in query);
}

-- ---- the hashes that the ID token holds of what stands beside it; an absent one binds nothing, but where it is demanded

module _ {AC GC Key Use : Type 0} (types : SiteTypes AC GC Key Use) (v : KeyVerifier Key) (token : SeenIdToken AC GC)
    (query : List (List ℕ × List ℕ)) where
  -- an `at_hash` and an access token are there, and no hash goes with the algorithm
  abbrev pub token_hash_refusal : Option SigningError
  token_hash_refusal = refusal_beside types v token (claimed_hash token) (first_of (access_tokens_in query))

  -- a `c_hash` and a code are there, and no hash goes with the algorithm
  abbrev pub code_hash_refusal : Option SigningError
  code_hash_refusal = refusal_beside types v token (claimed_code_hash token) (first_of (codes_in query))

  -- there are several access tokens, or one whose hash isn't the `at_hash`
  abbrev pub has_other_token : Bool
  has_other_token =
      is_several (access_tokens_in query)
      || is_another_beside types v token (claimed_hash token) (first_of (access_tokens_in query))

  -- there are several codes, or one whose hash isn't the `c_hash`, or one without that where it is demanded
  abbrev pub has_other_code : Bool → Bool
  has_other_code demanded =
      is_several (codes_in query)
      || (is_another_beside types v token (claimed_code_hash token) (first_of (codes_in query))
      || lacks_claim demanded (claimed_code_hash token) (first_of (codes_in query)))

-- ---- the rows

-- Sections of OpenID Connect Core 1.0 where none is named: an implicit answer, and a hybrid one.
unfoldable pub front : {AC GC Key Use : Type 0} → SiteTypes AC GC Key Use → FrontAttempt Key
    → FrontReply (SeenFrontAnswer AC GC)
front types a = do
  -- a limit of this project's own
  TooLong when is_over_long a.query
  -- RFC 6749 sections 4.2.2 and 10.12
  State when not (is_sent a.state (state_in (pairs a.query)))
  -- 3.2.2.6, 3.3.2.6; RFC 6749 section 4.2.2.1
  Provider for error_in (pairs a.query)
  -- 3.2.2.5, 3.3.2.5
  text ← id_token_in (pairs a.query) or NoIdToken
  -- section 2; RFC 7515 section 7.1
  token ← id_token_of types a.client.reading text or_as Parse
  -- 3.2.2.11, 3.3.2.12; 3.1.3.7
  Claims for failure_for types a.client a.nonce a.now token
  -- 3.2.2.9, 3.3.2.9, 3.3.2.10
  Signing for token_hash_refusal types (verifier_of types a.client) token (pairs a.query)
  Signing for code_hash_refusal types (verifier_of types a.client) token (pairs a.query)
  -- 3.2.2.9, 3.3.2.9; once each by RFC 6749 section 3.1
  TokenHash when has_other_token types (verifier_of types a.client) token (pairs a.query)
  -- 3.3.2.10; a hash may be demanded by 3.3.2.11
  CodeHash when has_other_code types (verifier_of types a.client) token (pairs a.query) a.client.code_hash_required
  Ok (front_answer token (pairs a.query))

-- ---- what a result says of this

-- want of memory
abbrev pub is_memory : FrontError → Bool
is_memory refusal.Memory = true
is_memory e = false

-- a refusal is seen as it is, and stands for no fault of a transport: there is none
abbrev pub front_errors : ErrorMeaning FrontError FrontError
front_errors = record { seen = λ e. e; wants_memory = is_memory; is_fault = λ e. false }

-- want of memory stands inside another refusal
abbrev pub holds_memory : FrontError → Bool
holds_memory (refusal.Claims kind) = is_wanting kind
holds_memory (refusal.Signing signing.Memory) = true
holds_memory e = false
