-- Which key checks a token's signature, and what is said of it (OpenID Connect Core 1.0 sections 3.1.3.7
-- and 10.1, RFC 7515 section 5.2, RFC 7517 section 4).
use Rattle.std.specs.Prelude.{◌≡◌, ℕ, List, [], ◌∷◌, filter, Bool, true, false, ◌&&◌, Option, None, Some, unwrap_or, Result, Ok, Err, if◌then◌else◌}
use Rattle.std.specs.Borrow.{Bor}
use Rattle.std.specs.List.{list_any}
use Rattle.std.specs.Option.{ok_or}
use Rattle.std.specs.Str.{bytes_eq}
use Rattle.oidc_types.specs.{TextAndUrl}
use Rattle.oidc_types.specs.declared.algorithms.JwsSigningAlgorithm.{Ghosts as Algorithms}
use Rattle.oidc_types.specs.declared.vocabulary.ClosedVocabulary.{Ghosts as Words}
use Rattle.oidc_keys.specs.declared.jwk.JsonWebKey.{Ghosts as Keys}
use Rattle.oidc_keys.specs.declared.jwk.JsonWebKeyUse.{Ghosts as Uses}
use Rattle.oidc_keys.specs.declared.refusals.SignatureVerificationError.{SignatureVerificationError}
use Rattle.oidc_keys.specs.declared.refusals.SignatureVerificationError.TheVariants.{AmbiguousKeyId, DisallowedAlg, NoMatchingKey, NoSignature, UnsupportedAlg}
use Rattle.oidc_jwt.specs.declared.header.JsonWebTokenAlgorithm.{JsonWebTokenAlgorithm}
use Rattle.oidc_jwt.specs.declared.header.JsonWebTokenAlgorithm.TheVariants.{Signature, Encryption, None as Unsigned}
use Rattle.oidc_tokens.specs.Steps.{◌>>=◌}
use Rattle.oidc_jwt.specs.Tokens.{SeenToken}

-- what is known of keys, what they are for, the algorithms that they sign by, and their types
pub record KeyMeanings (Key Use Algorithm Type' : Type 0) : Type 1 where
  pub keys : Keys Key Use Algorithm Type'
  pub uses : Uses Use
  pub algorithms : Algorithms Algorithm Type'
  pub algorithm_words : Words Algorithm
  pub type_words : Words Type'

abbrev pub meanings : {Key Use Algorithm Type' : Type 0} → Keys Key Use Algorithm Type' → Uses Use
    → Algorithms Algorithm Type' → Words Algorithm → Words Type' → KeyMeanings Key Use Algorithm Type'
meanings keys uses algorithms algorithm_words type_words = record {
  keys = keys;
  uses = uses;
  algorithms = algorithms;
  algorithm_words = algorithm_words;
  type_words = type_words;
}

-- what a client expects: itself in the audience, the issuer, and whose signatures it takes
pub record SeenVerifier (Key Algorithm : Type 0) : Type 0 where
  pub client_id : List ℕ
  pub issuer : TextAndUrl
  -- the key that the client's secret is, where the client has one
  pub secret_key : Option Key
  -- the keys of the issuer
  pub keys : List Key
  -- the algorithms that the client allows, where it has a list
  pub allowed : Option (List Algorithm)

-- ---- the algorithm and the key

-- what a reference in an answer points to
abbrev pub behind : {A E : Type 0} → Result (Bor A) E → Result A E
behind (Ok found) = Ok found.now
behind (Err refusal) = Err refusal

-- the algorithm that a token is signed by
abbrev pub signing_alg : {JE JS : Type 0} → JsonWebTokenAlgorithm JE JS
    → Result JS SignatureVerificationError
signing_alg (Signature alg) = Ok alg
signing_alg (Encryption alg) = Err UnsupportedAlg
signing_alg Unsigned = Err NoSignature

-- the one of a list
abbrev pub the_one : {A : Type 0} → List A → Result A SignatureVerificationError
the_one [] = Err NoMatchingKey
the_one (key ∷ []) = Ok key
the_one (key ∷ another ∷ rest) = Err AmbiguousKeyId

-- The answer is the one member of a list that passes.
abbrev pub IsTheOneOf : {A : Type 0} → (A → Bool) → List A → Result A SignatureVerificationError → Type 0
IsTheOneOf passes xs answer = answer ≡ the_one (filter passes xs)

-- A key has the id that is asked for, where one is.
abbrev pub has_id : Option (List ℕ) → Option (List ℕ) → Bool
has_id None id = true
has_id (Some kid) None = false
has_id (Some kid) (Some id) = bytes_eq id kid

-- Two words count as equal where their texts are.
abbrev pub is_same_word : {Word : Type 0} → Words Word → Word → Word → Bool
is_same_word words a b = bytes_eq (words.as_ref a) (words.as_ref b)

-- A key is of the type that an algorithm asks for, where it asks for one.
abbrev pub is_of_type : {Type' : Type 0} → Words Type' → Option Type' → Type' → Bool
is_of_type words None type = false
is_of_type words (Some wanted) type = is_same_word words type wanted

-- A key's use is absent or allows signatures.
abbrev pub may_verify : {Use : Type 0} → Uses Use → Option Use → Bool
may_verify uses None = true
may_verify uses (Some purpose) = uses.allows_signature purpose

module _ {Key Use Algorithm Type' : Type 0} (k : KeyMeanings Key Use Algorithm Type') where
  -- A key fits an algorithm and the id in a header.
  abbrev pub fits : Algorithm → Option (List ℕ) → Key → Bool
  fits alg kid key =
      is_of_type k.type_words (k.algorithms.key_type alg) (k.keys.key_type key)
      && may_verify k.uses (k.keys.key_use key)
      && has_id kid (k.keys.key_id key)

  -- The key that checks a signature: for a shared-secret algorithm that of the client's secret, else the one
  -- key of the issuer that fits.
  abbrev pub key_for : SeenVerifier Key Algorithm → Option (List ℕ) → Algorithm
      → Result Key SignatureVerificationError
  key_for v kid alg =
      if k.algorithms.uses_shared_secret alg then ok_or v.secret_key DisallowedAlg
      else the_one (filter (fits alg kid) v.keys)

  -- Without a list RS256 alone is allowed.
  abbrev pub allowed_by : SeenVerifier Key Algorithm → List Algorithm
  allowed_by v = unwrap_or v.allowed (k.algorithms.rsa_sha_256 ∷ [])

  abbrev pub is_allowed : SeenVerifier Key Algorithm → Algorithm → Bool
  is_allowed v alg = list_any (λ a. is_same_word k.algorithm_words a alg) (allowed_by v)

  abbrev pub if_allowed : SeenVerifier Key Algorithm → Algorithm
      → Result Algorithm SignatureVerificationError
  if_allowed v alg = if is_allowed v alg then Ok alg else Err DisallowedAlg

  module _ {JE P : Type 0} where
    -- the key that checks a token's signature
    abbrev pub checking_key : SeenVerifier Key Algorithm → SeenToken JE Algorithm P
        → Result Key SignatureVerificationError
    checking_key v token = signing_alg token.header.alg >>= key_for v token.header.kid

    -- what is said of a token's signature
    unfoldable pub verdict_on : SeenVerifier Key Algorithm → SeenToken JE Algorithm P
        → Result (Unit {0}) SignatureVerificationError
    verdict_on v token = do
      named ← signing_alg token.header.alg
      alg ← if_allowed v named
      key ← key_for v token.header.kid alg
      k.keys.verdict key alg token.message token.signature
