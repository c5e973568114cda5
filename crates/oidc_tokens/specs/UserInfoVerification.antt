-- The checks of a user info answer that is a token (OpenID Connect Core 1.0 sections 5.3.2 and 5.3.4).
use Rattle.std.specs.Prelude.{◌≡◌, ◌↔◌, ℕ, List, [], ◌∷◌, Bool, true, false, ◌||◌, not, Option, None, Some, Ok, IsTrue}
use Rattle.std.specs.Option.{option_map_or}
use Rattle.std.specs.Str.{bytes_eq}
use Rattle.oidc_types.specs.{TextAndUrl}
use Rattle.oidc_jwt.specs.declared.header.JsonWebTokenAlgorithm.TheVariants as algorithm
use Rattle.oidc_tokens.specs.declared.verification.refusals.ClaimsVerificationError.{ClaimsVerificationError}
use Rattle.oidc_tokens.specs.declared.verification.refusals.ClaimsVerificationError.TheVariants.{Unsupported, InvalidIssuer, InvalidAudience, SignatureVerification, InvalidSubject}
use Rattle.oidc_jwt.specs.Tokens.{SeenToken}
use Rattle.oidc_tokens.specs.Signatures.{KeyMeanings, SeenVerifier, is_allowed, key_for, verdict_on}
use Rattle.oidc_tokens.specs.Verification.{is_token_type, is_supported, IsForAlone, is_alone_in, unless, refused_as, first_refusal}

-- what a client expects of such a token
pub record SeenUserInfoVerifier (Key : Type 0) : Type 0 where
  pub client_id : List ℕ
  pub issuer : TextAndUrl
  -- the keys of the issuer
  pub keys : List Key
  -- who the claims are to be about, where that is known
  pub expected_subject : Option (List ℕ)
  -- whether the claims have to name the issuer, and the client as their audience
  pub issuer_match : Bool
  pub audience_match : Bool

-- whom claims name: who issued them, for whom, and whom they are about
pub record Parties : Type 0 where
  pub issuer : Option TextAndUrl
  pub audiences : Option (List (List ℕ))
  pub subject : List ℕ

abbrev pub parties : Option TextAndUrl → Option (List (List ℕ)) → List ℕ → Parties
parties issuer audiences subject = record { issuer = issuer; audiences = audiences; subject = subject }

-- Its signature is checked as for a client without a secret, which allows RS256 alone.
abbrev pub without_secret : {Key Algorithm : Type 0} → SeenUserInfoVerifier Key → SeenVerifier Key Algorithm
without_secret v = record {
  client_id = v.client_id;
  issuer = v.issuer;
  secret_key = None;
  keys = v.keys;
  allowed = None;
}

-- ---- acceptance

-- The issuer is there, and its text is this one, byte for byte.
pub record IsIssuedBy (text : List ℕ) (issuer : Option TextAndUrl) : Type 0 where
  pub found : TextAndUrl
  pub there : issuer ≡ Some found
  pub same : found.text ≡ text

-- The audience is there: this client is in it, and nobody else is.
pub record NamesAlone (client_id : List ℕ) (audiences : Option (List (List ℕ))) : Type 0 where
  pub found : List (List ℕ)
  pub there : audiences ≡ Some found
  pub alone : IsForAlone client_id found

module _ {Key Use Algorithm Type' : Type 0} (k : KeyMeanings Key Use Algorithm Type') {JE P : Type 0} where
  -- The token is accepted, whose claims name these parties.
  pub record AcceptsInfo (v : SeenUserInfoVerifier Key) (token : SeenToken JE Algorithm P) (named : Parties)
      : Type 0 where
    -- no extension has to be understood
    pub no_extension : token.header.crit ≡ false
    -- the payload is no token of its own
    pub no_inner_token : token.header.cty ≡ None
    -- the token is of a known type
    pub known_type : IsTrue (is_token_type token.header.typ)
    -- where that is asked, the issuer is the one that is expected
    pub issuer : IsTrue v.issuer_match → IsIssuedBy v.issuer.text named.issuer
    -- where that is asked, it is for the client and for nobody else
    pub audience : IsTrue v.audience_match → NamesAlone v.client_id named.audiences
    -- it is signed, by an algorithm that is allowed, which is RS256 alone
    pub alg : Algorithm
    pub signed : token.header.alg ≡ algorithm.Signature alg
    pub allowed : IsTrue (is_allowed k (without_secret v) alg)
    -- a key of the issuer, for that algorithm and the key id of the header, verifies the signature of the
    -- message; a client's secret is never the key
    pub key : Key
    pub chosen : key_for k (without_secret v) token.header.kid alg ≡ Ok key
    pub verified : k.keys.verdict key alg token.message token.signature ≡ Ok tt
    -- where a subject is expected, the claims are about it
    pub subject : (expected : List ℕ) → v.expected_subject ≡ Some expected → named.subject ≡ expected

-- ---- the same as checks, in the order in which they are made

module _ {Key : Type 0} where
  abbrev pub passes_issuer : SeenUserInfoVerifier Key → Option TextAndUrl → Bool
  passes_issuer v issuer = not v.issuer_match || option_map_or (λ i. bytes_eq i.text v.issuer.text) issuer false

  abbrev pub passes_audience : SeenUserInfoVerifier Key → Option (List (List ℕ)) → Bool
  passes_audience v audiences = not v.audience_match || option_map_or (is_alone_in v.client_id) audiences false

-- A subject is the expected one, where one is expected.
abbrev pub is_expected_subject : Option (List ℕ) → List ℕ → Bool
is_expected_subject expected subject = option_map_or (bytes_eq subject) expected true

module _ {Key Use Algorithm Type' : Type 0} (k : KeyMeanings Key Use Algorithm Type') {JE P : Type 0} where
  -- the first check that fails
  unfoldable pub first_info_failure : SeenUserInfoVerifier Key → SeenToken JE Algorithm P → Parties
      → Option ClaimsVerificationError
  first_info_failure v token named =
      first_refusal
      (unless (is_supported token.header) Unsupported
      ∷ unless (passes_issuer v named.issuer) InvalidIssuer
      ∷ unless (passes_audience v named.audiences) InvalidAudience
      ∷ refused_as SignatureVerification (verdict_on k (without_secret v) token)
      ∷ unless (is_expected_subject v.expected_subject named.subject) InvalidSubject
      ∷ [])

-- No check fails exactly where the token is accepted.
abbrev pub InfoFailsUnlessAccepted : {Key Use Algorithm Type' : Type 0}
    → KeyMeanings Key Use Algorithm Type' → (JE P : Type 0) → Type 0
InfoFailsUnlessAccepted {Key} {Use} {Algorithm} k JE P =
    (v : SeenUserInfoVerifier Key) (token : SeenToken JE Algorithm P) (named : Parties)
    → (first_info_failure k v token named ≡ None) ↔ AcceptsInfo k v token named
