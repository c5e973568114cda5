-- What each answer of `front_channel` rests on, said without its table.
use Rattle.std.specs.Prelude.{◌≡◌, ◌≢◌, ◌⊎◌, ℕ, List, [], ◌∷◌, Bool, Option, None, Some, IsSome, false, true, Ok, Err, codes}
use Rattle.oidc_pairs.specs.Pairs.{pairs, values, first_of, only_of}
use Rattle.oidc_members.specs.declared.refusal.Refusal.{Refusal}
use Rattle.oidc_types.specs.{signing_text}
use Rattle.oidc_types.specs.declared.core_algorithms.CoreJwsSigningAlgorithm.{CoreJwsSigningAlgorithm}
use Rattle.oidc_types.specs.declared.core_authorization.CoreAuthErrorResponseType.{CoreAuthErrorResponseType}
use Rattle.oidc_types.specs.declared.signing_error.SigningError.{SigningError}
use Rattle.oidc_types.specs.declared.signing_error.SigningError.TheVariants.{UnsupportedAlg}
use Rattle.oidc_oauth2.specs.TokenAnswers.{is_over_long}
use Rattle.oidc_tokens.specs.declared.verification.refusals.ClaimsVerificationError.{ClaimsVerificationError}
use Rattle.oidc_login.specs.Types.{SiteTypes}
use Rattle.oidc_login.specs.BeforeRequest.{error_in}
use Rattle.oidc_login.specs.Token.{SeenIdToken, id_token_of, IsAcceptedBy, failure_for, FailsFor, claimed_hash, claimed_code_hash, hash_under, FitsClaim}
use Rattle.oidc_login.specs.FrontChannel.{FrontAttempt, SeenFrontAnswer}
use Rattle.oidc_login.specs.declared.front.FrontError.{FrontError}
use Rattle.oidc_login.specs.declared.front.FrontError.TheVariants as refusal

-- ---- a hash that an ID token claims, and the values that stand for it in the query

-- a hash is claimed, and a value stands for it
pub record IsClaimed (claim : Option (List ℕ)) (found : List (List ℕ)) : Type 0 where
  pub has_claim : IsSome claim
  pub has_value : IsSome (first_of found)

-- a hash is demanded, a value is there, and none is claimed
pub record LacksClaim (demanded : Bool) (claim : Option (List ℕ)) (found : List (List ℕ)) : Type 0 where
  pub is_demanded : demanded ≡ true
  pub has_value : IsSome (first_of found)
  pub no_claim : claim ≡ None

module _ {AC GC Key Use : Type 0} (types : SiteTypes AC GC Key Use) (claim : Option (List ℕ)) (key : Key)
    (alg : CoreJwsSigningAlgorithm) where
  -- the claim is there, and isn't the hash of this value
  pub record IsAnotherHash (text : List ℕ) : Type 0 where
    pub claimed : List ℕ
    pub is_claimed : claim ≡ Some claimed
    pub hash : List ℕ
    pub has_hash : hash_under types key alg text ≡ Some hash
    pub another : hash ≢ claimed

  -- there is no value, or one of which any claim is the hash
  abbrev pub FitsValues : List (List ℕ) → Type 0
  FitsValues [] = Unit {0}
  FitsValues (text ∷ []) = FitsClaim types claim key alg text
  FitsValues (text ∷ next ∷ others) = ⊥

  -- there is one of which the claim isn't the hash, or there are several
  abbrev pub MisfitsValues : List (List ℕ) → Type 0
  MisfitsValues [] = ⊥
  MisfitsValues (text ∷ []) = IsAnotherHash text
  MisfitsValues (text ∷ next ∷ others) = Unit {0}

-- ---- how far a query came: each record rests on the one before

module _ {Key : Type 0} (a : FrontAttempt Key) where
  -- the query isn't too long, and its one `state` is that of the request
  pub record HasState : Type 0 where
    pub short_query : is_over_long a.query ≡ false
    pub own_state : only_of (values a.query (codes "state")) ≡ Some a.state

  -- it has no `error`
  pub record HasNoError : Type 0 where
    pub has_state : HasState
    pub no_error : values a.query (codes "error") ≡ []

  -- it has one `id_token`, which is this text
  pub record HasIdToken (text : List ℕ) : Type 0 where
    pub has_no_error : HasNoError
    pub one_id_token : only_of (values a.query (codes "id_token")) ≡ Some text

  -- ---- refusals that rest on the query and the state alone

  -- the query hasn't one `state`, or has another than that of the request
  pub record LacksState : Type 0 where
    pub short_query : is_over_long a.query ≡ false
    pub other_state : only_of (values a.query (codes "state")) ≢ Some a.state

  -- it has an `error`, and this is the first
  pub record HasProviderError (code : CoreAuthErrorResponseType) : Type 0 where
    pub has_state : HasState
    pub first_error : error_in (pairs a.query) ≡ Some code

  -- it hasn't one `id_token`
  pub record LacksOneIdToken : Type 0 where
    pub has_no_error : HasNoError
    pub not_one_id_token : only_of (values a.query (codes "id_token")) ≡ None

module _ {AC GC Key Use : Type 0} (types : SiteTypes AC GC Key Use) (a : FrontAttempt Key) where
  -- the text is this ID token
  pub record ReadsIdToken (token : SeenIdToken AC GC) : Type 0 where
    pub text : List ℕ
    pub has_id_token : HasIdToken a text
    pub read : id_token_of types a.client.reading text ≡ Ok token

  -- which is accepted with the request's nonce at this moment
  pub record AcceptsIdToken (token : SeenIdToken AC GC) : Type 0 where
    pub reads : ReadsIdToken token
    pub accepts : IsAcceptedBy types a.client a.nonce a.now token

  -- the hash function of the algorithm and under the key by which it was accepted
  abbrev pub own_hash_function : (token : SeenIdToken AC GC) → AcceptsIdToken token → Option (List ℕ → List ℕ)
  own_hash_function token accepted = types.keys.keys.hash_of accepted.accepts.key accepted.accepts.alg

  -- there is one wherever a hash is claimed and a value stands for it
  pub record HasHashes (token : SeenIdToken AC GC) : Type 0 where
    pub accepted : AcceptsIdToken token
    pub of_token : IsClaimed (claimed_hash token) (values a.query (codes "access_token"))
        → IsSome (own_hash_function token accepted)
    pub of_code : IsClaimed (claimed_code_hash token) (values a.query (codes "code"))
        → IsSome (own_hash_function token accepted)

  -- and the access token, where one is there, fits
  pub record FitsToken (token : SeenIdToken AC GC) : Type 0 where
    pub has_hashes : HasHashes token
    pub fits_token : FitsValues types (claimed_hash token) has_hashes.accepted.accepts.key
        has_hashes.accepted.accepts.alg (values a.query (codes "access_token"))

  -- ---- an Ok

  -- An answer that is accepted: the query has the request's state, no error, one ID token, which the client accepts with
  -- the request's nonce at this moment, and at most one access token and one code. The `at_hash` is absent, or there is
  -- no access token, or it is the hash of the one, by the algorithm and under the key of the acceptance; and so the
  -- `c_hash` and the code, where it isn't absent if the client demands it. (It rests on no record before, so that it can be read alone.)
  pub record IsFrontAnswer (answer : SeenFrontAnswer AC GC) : Type 0 where
    pub short_query : is_over_long a.query ≡ false
    pub own_state : only_of (values a.query (codes "state")) ≡ Some a.state
    pub no_error : values a.query (codes "error") ≡ []
    pub text : List ℕ
    pub one_id_token : only_of (values a.query (codes "id_token")) ≡ Some text
    pub read : id_token_of types a.client.reading text ≡ Ok answer.id_token
    pub accepted : IsAcceptedBy types a.client a.nonce a.now answer.id_token
    pub fits_token : FitsValues types (claimed_hash answer.id_token) accepted.key accepted.alg
        (values a.query (codes "access_token"))
    pub fits_code : FitsValues types (claimed_code_hash answer.id_token) accepted.key accepted.alg
        (values a.query (codes "code"))
    pub has_code_hash : a.client.code_hash_required ≡ true → IsSome answer.code
        → IsSome (claimed_code_hash answer.id_token)
    pub own_access_token : answer.access_token ≡ only_of (values a.query (codes "access_token"))
    pub own_code : answer.code ≡ only_of (values a.query (codes "code"))

  -- ---- refusals by the ID token

  -- the text is no ID token, for this reason
  pub record HasUnreadToken (why : Refusal) : Type 0 where
    pub text : List ℕ
    pub has_id_token : HasIdToken a text
    pub unread : id_token_of types a.client.reading text ≡ Err why

  -- this check of the ID token is the first that fails
  pub record FailsFrontCheck (kind : ClaimsVerificationError) : Type 0 where
    pub token : SeenIdToken AC GC
    pub reads : ReadsIdToken token
    pub check_failed : failure_for types a.client a.nonce a.now token ≡ Some kind
    -- and this is why, said by itself
    pub cause : FailsFor types a.client a.nonce a.now token kind

  -- a hash is claimed and a value stands for it, and no hash goes with the algorithm, which the refusal names
  pub record LacksHashes (why : SigningError) : Type 0 where
    pub token : SeenIdToken AC GC
    pub accepted : AcceptsIdToken token
    pub is_claimed : IsClaimed (claimed_hash token) (values a.query (codes "access_token"))
        ⊎ IsClaimed (claimed_code_hash token) (values a.query (codes "code"))
    pub no_hash : own_hash_function token accepted ≡ None
    pub names_algorithm : why ≡ UnsupportedAlg (signing_text accepted.accepts.alg)

  -- there are several access tokens, or one whose hash isn't the `at_hash`
  pub record HasOtherToken : Type 0 where
    pub token : SeenIdToken AC GC
    pub has_hashes : HasHashes token
    pub other_token : MisfitsValues types (claimed_hash token) has_hashes.accepted.accepts.key
        has_hashes.accepted.accepts.alg (values a.query (codes "access_token"))

  -- there are several codes, or one whose hash isn't the `c_hash`, or one without that where the client demands it
  pub record HasOtherCode : Type 0 where
    pub token : SeenIdToken AC GC
    pub fits : FitsToken token
    pub other_code : MisfitsValues types (claimed_code_hash token) fits.has_hashes.accepted.accepts.key
        fits.has_hashes.accepted.accepts.alg (values a.query (codes "code"))
        ⊎ LacksClaim a.client.code_hash_required (claimed_code_hash token) (values a.query (codes "code"))

  -- ---- the cause of each refusal

  abbrev pub FrontCause : FrontError → Type 0
  FrontCause refusal.TooLong = is_over_long a.query ≡ true
  FrontCause refusal.State = LacksState a
  FrontCause (refusal.Provider code) = HasProviderError a code
  FrontCause refusal.NoIdToken = LacksOneIdToken a
  FrontCause (refusal.Parse why) = HasUnreadToken why
  FrontCause (refusal.Claims kind) = FailsFrontCheck kind
  FrontCause (refusal.Signing why) = LacksHashes why
  FrontCause refusal.TokenHash = HasOtherToken
  FrontCause refusal.CodeHash = HasOtherCode
  FrontCause refusal.Memory = ⊥
