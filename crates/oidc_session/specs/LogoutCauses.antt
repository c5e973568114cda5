-- What each answer to a logout token rests on, said without the table of its checks.
use Rattle.std.specs.Prelude.{◌≡◌, ◌≢◌, ◌⊎◌, ℕ, ℤ, ◌<ℤ◌, ◌≤ℤ◌, List, false, None, IsSome, IsTrue, IsFalse, Ok, Err}
use Rattle.std.specs.FinSet as set
use Rattle.oidc_types.specs.declared.vocabulary.ClosedVocabulary.{Ghosts as Words}
use Rattle.oidc_keys.specs.declared.refusals.SignatureVerificationError.{SignatureVerificationError}
use Rattle.oidc_jwt.specs.declared.header.JsonWebTokenAlgorithm.TheVariants as algorithm
use Rattle.oidc_jwt.specs.declared.header.TokenHeader.{TokenHeader}
use Rattle.oidc_tokens.specs.Verification.{IsForAlone}
use Rattle.oidc_session.specs.Sessions.{TokenIds, SeenLogout}
use Rattle.oidc_session.specs.LogoutTokens.{LogoutKeys, SeenLogoutVerifier, SeenLogoutToken, logout_token_of, is_logout_type, logout_of}
use Rattle.oidc_session.specs.declared.errors.LogoutError.{LogoutError}
use Rattle.oidc_session.specs.declared.errors.LogoutError.TheVariants as refusal

-- an extension has to be understood, the payload is a token of its own, or the type is no known one
abbrev pub AsksTooMuch : {JE JS : Type 0} → TokenHeader JE JS → Type 0
AsksTooMuch header = IsTrue header.crit ⊎ ((header.cty ≢ None) ⊎ IsFalse (is_logout_type header.typ))

-- the algorithm is one that signs, and has the text of this one
abbrev pub IsSignedBy : {Algorithm : Type 0} → Words Algorithm → Algorithm → SeenLogoutToken Algorithm → Type 0
IsSignedBy {Algorithm} words own token =
    (alg : Algorithm) × (token.header.alg ≡ algorithm.Signature alg) × (words.as_ref alg ≡ words.as_ref own)

-- ---- how far a text came: each record rests on the one before

module _ {Key Algorithm : Type 0} (keys : LogoutKeys Key Algorithm) (v : SeenLogoutVerifier Key Algorithm)
    (now : ℤ) (text : List ℕ) (token : SeenLogoutToken Algorithm) where
  -- the text is this token, and its header is known
  pub record HasKnownHeader : Type 0 where
    pub read : logout_token_of keys.words text ≡ Ok token
    pub no_extension : token.header.crit ≡ false
    pub no_inner_token : token.header.cty ≡ None
    pub known_type : IsTrue (is_logout_type token.header.typ)

  -- its issuer's text is the one that is expected, byte for byte
  pub record HasOwnIssuer : Type 0 where
    pub known : HasKnownHeader
    pub own_issuer : token.payload.needed.issuer.text ≡ v.issuer.text

  -- it is for the client, and for nobody else
  pub record HasOwnAudience : Type 0 where
    pub issued : HasOwnIssuer
    pub own_audience : IsForAlone v.client_id token.payload.needed.audiences

  -- it is signed by the one algorithm
  pub record HasOwnAlgorithm : Type 0 where
    pub addressed : HasOwnAudience
    pub own_algorithm : IsSignedBy keys.words v.alg token

  -- the key verifies the signature of the message
  pub record IsVerified : Type 0 where
    pub by_algorithm : HasOwnAlgorithm
    pub verified : keys.verdict v.key v.alg token.message token.signature ≡ Ok tt

  -- this moment is before it expires
  pub record IsInTime : Type 0 where
    pub is_verified : IsVerified
    pub unexpired : now <ℤ token.payload.needed.expiration

  -- it is a token of a logout
  pub record HasLogoutEvent : Type 0 where
    pub in_time : IsInTime
    pub has_event : IsTrue token.payload.needed.names_logout

  -- it names a subject or a session of the provider
  pub record NamesSomebody : Type 0 where
    pub has_logout_event : HasLogoutEvent
    pub has_name : IsSome token.payload.subject ⊎ IsSome token.payload.provider_session

  -- it has no nonce
  pub record HasNoNonce : Type 0 where
    pub names_somebody : NamesSomebody
    pub no_nonce : IsFalse token.payload.has_nonce

module _ {Key Algorithm : Type 0} (keys : LogoutKeys Key Algorithm) (v : SeenLogoutVerifier Key Algorithm)
    (token_ids : TokenIds) (now : ℤ) (text : List ℕ) where
  -- ---- an Ok

  -- The text is a logout token that passes each check, whose id wasn't accepted before, and it names this. (It is said
  -- once more from the first to the last, so that it can be read alone.)
  pub record IsAcceptedLogout (logout : SeenLogout) : Type 0 where
    pub token : SeenLogoutToken Algorithm
    pub read : logout_token_of keys.words text ≡ Ok token
    pub no_extension : token.header.crit ≡ false
    pub no_inner_token : token.header.cty ≡ None
    pub known_type : IsTrue (is_logout_type token.header.typ)
    pub own_issuer : token.payload.needed.issuer.text ≡ v.issuer.text
    pub own_audience : IsForAlone v.client_id token.payload.needed.audiences
    pub own_algorithm : IsSignedBy keys.words v.alg token
    pub verified : keys.verdict v.key v.alg token.message token.signature ≡ Ok tt
    pub unexpired : now <ℤ token.payload.needed.expiration
    pub has_event : IsTrue token.payload.needed.names_logout
    pub has_name : IsSome token.payload.subject ⊎ IsSome token.payload.provider_session
    pub no_nonce : IsFalse token.payload.has_nonce
    pub is_new : IsFalse (set.contains token_ids token.payload.needed.token_id)
    pub named : logout ≡ logout_of token.payload

  -- ---- a refusal

  -- the header asks for what isn't known
  pub record HasUnknownHeader : Type 0 where
    pub token : SeenLogoutToken Algorithm
    pub read : logout_token_of keys.words text ≡ Ok token
    pub too_much : AsksTooMuch token.header

  -- another issuer
  pub record HasOtherIssuer : Type 0 where
    pub token : SeenLogoutToken Algorithm
    pub known : HasKnownHeader keys v now text token
    pub other_issuer : token.payload.needed.issuer.text ≢ v.issuer.text

  -- it isn't for the client, or it is for somebody else too
  pub record HasOtherAudience : Type 0 where
    pub token : SeenLogoutToken Algorithm
    pub issued : HasOwnIssuer keys v now text token
    pub other_audience : IsForAlone v.client_id token.payload.needed.audiences → ⊥

  -- it isn't signed by the one algorithm
  pub record HasOtherAlgorithm : Type 0 where
    pub token : SeenLogoutToken Algorithm
    pub addressed : HasOwnAudience keys v now text token
    pub other_algorithm : IsSignedBy keys.words v.alg token → ⊥

  -- the key says this of its signature
  pub record HasFault (fault : SignatureVerificationError) : Type 0 where
    pub token : SeenLogoutToken Algorithm
    pub by_algorithm : HasOwnAlgorithm keys v now text token
    pub faulty : keys.verdict v.key v.alg token.message token.signature ≡ Err fault

  -- it has expired
  pub record IsLate : Type 0 where
    pub token : SeenLogoutToken Algorithm
    pub is_verified : IsVerified keys v now text token
    pub expired : token.payload.needed.expiration ≤ℤ now

  -- it is no token of a logout
  pub record LacksEvent : Type 0 where
    pub token : SeenLogoutToken Algorithm
    pub in_time : IsInTime keys v now text token
    pub no_event : IsFalse token.payload.needed.names_logout

  -- it names neither a subject nor a session of the provider
  pub record NamesNobody : Type 0 where
    pub token : SeenLogoutToken Algorithm
    pub has_logout_event : HasLogoutEvent keys v now text token
    pub no_subject : token.payload.subject ≡ None
    pub no_provider_session : token.payload.provider_session ≡ None

  -- it has a nonce
  pub record HasNonce : Type 0 where
    pub token : SeenLogoutToken Algorithm
    pub names_somebody : NamesSomebody keys v now text token
    pub nonce : IsTrue token.payload.has_nonce

  -- a token of its id was accepted
  pub record WasAccepted : Type 0 where
    pub token : SeenLogoutToken Algorithm
    pub has_no_nonce : HasNoNonce keys v now text token
    pub known_id : IsTrue (set.contains token_ids token.payload.needed.token_id)

  -- the cause of each refusal
  abbrev pub LogoutCause : LogoutError → Type 0
  LogoutCause (refusal.Parse why) = logout_token_of keys.words text ≡ Err why
  LogoutCause refusal.Unsupported = HasUnknownHeader
  LogoutCause refusal.InvalidIssuer = HasOtherIssuer
  LogoutCause refusal.InvalidAudience = HasOtherAudience
  LogoutCause refusal.WrongAlgorithm = HasOtherAlgorithm
  LogoutCause (refusal.Signature fault) = HasFault fault
  LogoutCause refusal.Expired = IsLate
  LogoutCause refusal.Events = LacksEvent
  LogoutCause refusal.NoName = NamesNobody
  LogoutCause refusal.Nonce = HasNonce
  LogoutCause refusal.Replayed = WasAccepted
  LogoutCause refusal.Memory = ⊥
