-- A whole login over a provider double, from the URL of its begin on: what it rests on, and what it comes to (OpenID Connect
-- Core 1.0 sections 3.1.2, 3.1.3 and 5.3).
use Rattle.std.specs.Prelude.{◌≡◌, ◌⊎◌, ℕ, ℤ, ◌<ℤ◌, List, [], ◌∷◌, ◌&&◌, true, false, Option, None, Some, is_some, Result, Ok, Err, IsTrue, IsUtf8, codes}
use Rattle.std.specs.FinMap as finite
use Rattle.serde_json.specs.Data.{Data}
use Rattle.http_header.specs.FieldValue.{is_visible_text}
use Rattle.url.specs.Parts.{Parts, serialize}
use Rattle.oidc_pairs.specs.Pairs.{pairs}
use Rattle.oidc_members.specs.Seen.{SeenMember, OutSeen}
use Rattle.oidc_members.specs.Write.{object_text}
use Rattle.oidc_members.specs.declared.refusal.Refusal.{Refusal}
use Rattle.oidc_types.specs.{TextAndUrl}
use Rattle.oidc_types.specs.declared.core_algorithms.CoreJwsSigningAlgorithm.TheVariants.{HmacSha256}
use Rattle.oidc_keys.specs.CoreJwk.{SymmetricKey}
use Rattle.oidc_keys.specs.declared.core_jwk.CoreJsonWebKeyUse.{CoreJsonWebKeyUse}
use Rattle.oidc_oauth2.specs.Messages.{SeenAnswer}
use Rattle.oidc_oauth2.specs.Pkce.{s256}
use Rattle.oidc_oauth2.specs.Replies.{◌>>◌, ◌when◌, Unless}
use Rattle.oidc_oauth2.specs.Requests.{is_address}
use Rattle.oidc_oauth2.specs.TokenAnswers.{is_over_long}
use Rattle.oidc_id_token_claims.specs.IdTokenClaims.{SeenIdTokenClaims}
use Rattle.oidc_id_token_claims.specs.RoundTrip.{IsTokenInRange}
use Rattle.oidc_tokens.specs.Signatures.{is_allowed}
use Rattle.oidc_user_info.specs.UserInfoClaims.{SeenUserInfoClaims, user_info_members}
use Rattle.oidc_user_info.specs.RoundTrip.{IsInfoInRange}
use Rattle.oidc_client.specs.Authorization.{HasChallenge, StandOnce, query_values}
use Rattle.oidc_login.specs.Types.{SiteTypes, SeenLoginClient}
use Rattle.oidc_login.specs.Logins.{SeenLogin, SeenLogins}
use Rattle.oidc_login.specs.Begin.{Begin}
use Rattle.oidc_login.specs.Token.{SeenIdToken, verifier_of}
use Rattle.oidc_login.specs.SignedIn.{SeenSignedIn}
use Rattle.oidc_login.specs.Callback.{Meant, outcome}
use Rattle.oidc_login.specs.Runs.{attempt}
use Rattle.oidc_login.specs.Errors.{wants_memory, seen}
use Rattle.oidc_login.specs.declared.types.UserInfoDemand.{UserInfoDemand}
use Rattle.oidc_login.specs.declared.errors.TooLong.TheVariants as place
use Rattle.oidc_login.specs.declared.errors.LoginError.{LoginError}
use Rattle.oidc_login.specs.declared.errors.LoginError.TheVariants as login_error
use Rattle.std.specs.declared.convert.Infallible.{Infallible}
use Rattle.oidc_provider.specs.Settings.{registered}
use Rattle.oidc_provider.specs.Grants.{SeenGrant, grant_of_code, has_code, has_token}
use Rattle.oidc_provider.specs.Provider.{SeenProvider}
use Rattle.oidc_provider.specs.Authorization.{Asked, Allowed, asked, callback_pairs, callback_query}
use Rattle.oidc_provider.specs.Issuing.{core_types, claims_for, hashed, token_body, IsIssued, IsGranted}
use Rattle.oidc_provider.specs.Keeping.{Keeps}
use Rattle.oidc_provider.specs.Answers.{served}
use Rattle.oidc_provider.specs.Honest.{user_by}
use Rattle.oidc_provider.specs.declared.settings.ProviderSettings.{ProviderSettings}
use Rattle.oidc_provider.specs.declared.settings.Registration.{Registration}

-- what is to be issued for the URL of a begin: the claims, under this code and this access token
pub record ToIssue (AC GC : Type 0) : Type 0 where
  pub claims : SeenIdTokenClaims AC GC
  pub user_info : SeenUserInfoClaims AC GC
  pub code : List ℕ
  pub token : List ℕ

abbrev pub to_issue : {AC GC : Type 0} → SeenIdTokenClaims AC GC → SeenUserInfoClaims AC GC → List ℕ → List ℕ → ToIssue AC GC
to_issue claims user_info code token = record { claims = claims; user_info = user_info; code = code; token = token }

-- what `authorize` is asked with it
abbrev pub asked_with : {AC GC : Type 0} → Parts → ToIssue AC GC → Asked
asked_with url t = asked url t.claims.standard_claims.subject t.user_info.standard_claims.subject t.code t.token

-- ---- what a login rests on

-- the login of a begin
abbrev pub login_of_begin : Begin → SeenLogin
login_of_begin b = record {
  nonce = b.request.nonce;
  redirect_uri = b.request.redirect_uri;
  verifier = b.verifier;
  user_info = b.user_info;
}

-- what a provider allows to this client for a begin
abbrev pub allowed_for : Registration → Begin → Allowed
allowed_for client b = record {
  client = client;
  login = record { state = b.request.state; nonce = b.request.nonce; challenge = s256 b.verifier };
}

-- The login of a begin is pending.
pub record IsPending {Key : Type 0} (logins : SeenLogins Key) (b : Begin) : Type 0 where
  pub pending : finite.get logins.pending b.request.state ≡ Some (login_of_begin b)
  pub own_client : b.request.client_id ≡ logins.client.client_id
  pub verifier_text : IsUtf8 b.verifier

-- The URL is that of a begin: its client ID, state, nonce and redirect stand in it once each, and its challenge stands in it.
pub record IsUrlOf (b : Begin) (url : Parts) : Type 0 where
  pub once : StandOnce b.request url
  pub challenge : HasChallenge (s256 b.verifier) url

-- An endpoint of a client is there, and is one that is sent to.
pub record IsSentTo (own : Option TextAndUrl) (address_of : TextAndUrl → List ℕ) (wanted : List ℕ) : Type 0 where
  pub endpoint : TextAndUrl
  pub own_endpoint : own ≡ Some endpoint
  pub same_address : address_of endpoint ≡ wanted
  pub address : is_address (address_of endpoint) ≡ true

module _ {AC GC : Type 0} (additional : List SeenMember → Result AC Refusal) (gender : SeenMember → Result GC Refusal)
    (additional_out : AC → List OutSeen) where
  abbrev own_types : SiteTypes AC GC SymmetricKey CoreJsonWebKeyUse
  own_types = core_types additional gender

  -- The client's provider is this one, which knows its ID and its secret, and the client allows HS256.
  pub record IsProviderOf (p : SeenProvider) (client : SeenLoginClient SymmetricKey) (registration : Registration)
      : Type 0 where
    pub issuer : p.settings.issuer.text ≡ client.issuer.text
    pub own_id : registered p.registrations client.client_id ≡ Some registration
    pub own_secret : client.client_secret ≡ Some registration.secret
    pub token : IsSentTo client.token_uri (λ endpoint. serialize endpoint.url) (serialize p.settings.token.url)
    pub allows_hs256 : IsTrue (is_allowed own_types.keys (verifier_of own_types client) HmacSha256)

  -- User info is demanded, may be unsigned, and is in range.
  pub record MayBeDemanded (settings : ProviderSettings) (client : SeenLoginClient SymmetricKey)
      (claims : SeenUserInfoClaims AC GC) (demand : UserInfoDemand) : Type 0 where
    pub unsigned_allowed : demand.signed ≡ false
    pub endpoint : IsSentTo client.user_info_url (λ endpoint. endpoint.text) settings.user_info.text
    pub in_range : IsInfoInRange additional_out claims

  -- The login of a begin is pending, over the client's own provider; the claims are in range, and their expiry is yet to come.
  pub record IsLoginOver (p : SeenProvider) (logins : SeenLogins SymmetricKey) (t : ToIssue AC GC) (now : ℤ)
      (b : Begin) (registration : Registration) : Type 0 where
    pub pending : IsPending logins b
    pub provider : IsProviderOf p logins.client registration
    pub info : (b.user_info ≡ None)
        ⊎ ((demand : UserInfoDemand) × (b.user_info ≡ Some demand)
        × MayBeDemanded p.settings logins.client t.user_info demand)
    pub in_range : IsTokenInRange additional_out (claims_for p.settings (allowed_for registration b) t.claims)
    pub unexpired : now <ℤ t.claims.own.expiration

  -- A login is honest whose begin's URL a provider is to answer.
  pub record IsHonestLogin (p : SeenProvider) (logins : SeenLogins SymmetricKey) (url : Parts) (t : ToIssue AC GC) (now : ℤ)
      : Type 0 where
    pub begin : Begin
    pub registration : Registration
    pub login : IsLoginOver p logins t now begin registration
    pub own_url : IsUrlOf begin url

  module _ (gender_data : GC → Data) where
    -- A provider has a grant for a begin, unredeemed, as `authorize` keeps it; others may have come since. The query that
    -- names it is read back.
    pub record HasGrantFor (p : SeenProvider) (t : ToIssue AC GC) (b : Begin) (registration : Registration) : Type 0 where
      pub grant : SeenGrant
      pub granted : IsGranted additional gender additional_out gender_data p.settings (allowed_for registration b) t.code t.token t.claims t.user_info grant
      pub by_code : grant_of_code p.grants t.code ≡ Some grant
      pub by_token : finite.get p.grants.codes t.token ≡ Some t.code
      pub redirect : TextAndUrl
      pub own_redirect : b.request.redirect_uri ≡ Some redirect
      pub same_redirect : redirect.text ≡ registration.redirect.text
      pub one_subject : t.claims.standard_claims.subject ≡ t.user_info.standard_claims.subject
      pub token_text : is_visible_text t.token ≡ true
      pub named : pairs (callback_query t.code b.request.state) ≡ callback_pairs t.code b.request.state

    -- A login is granted for whose begin a provider has a grant.
    pub record IsGrantedLogin (p : SeenProvider) (logins : SeenLogins SymmetricKey) (t : ToIssue AC GC) (now : ℤ) : Type 0 where
      pub begin : Begin
      pub registration : Registration
      pub login : IsLoginOver p logins t now begin registration
      pub stands : HasGrantFor p t begin registration

-- A provider grants what is asked by the URL of a begin: no name that it looks at stands there twice (neither in the
-- endpoint's own query nor among added pairs), the redirect is the registered one, the claims are about one subject, code
-- and access token are new, and the latter may stand in a header.
pub record IsGrantable {AC GC : Type 0} (p : SeenProvider) (client : Registration) (b : Begin) (url : Parts) (t : ToIssue AC GC)
    : Type 0 where
  pub response_type : query_values url (codes "response_type") ≡ codes "code" ∷ []
  pub challenge : query_values url (codes "code_challenge") ≡ s256 b.verifier ∷ []
  pub method : query_values url (codes "code_challenge_method") ≡ codes "S256" ∷ []
  pub redirect : TextAndUrl
  pub own_redirect : b.request.redirect_uri ≡ Some redirect
  pub same_redirect : redirect.text ≡ client.redirect.text
  pub one_subject : t.claims.standard_claims.subject ≡ t.user_info.standard_claims.subject
  pub new_code : has_code p.grants t.code ≡ false
  pub new_token : has_token p.grants t.token ≡ false
  pub token_text : is_visible_text t.token ≡ true

-- ---- what it comes to

module _ {AC GC : Type 0} (additional_out : AC → List OutSeen) (gender_data : GC → Data) (settings : ProviderSettings)
    (registration : Registration) (b : Begin) (t : ToIssue AC GC) where
  abbrev own_claims : SeenIdTokenClaims AC GC
  own_claims = claims_for settings (allowed_for registration b) t.claims

  abbrev pub info_text : List ℕ
  info_text = object_text (user_info_members additional_out gender_data t.user_info)

  -- Where this is the ID token: the user is signed in with it, with the access token, without a refresh token, and with the
  -- user info exactly where it is demanded; or the first of three texts is too long, the query and the bodies of the two
  -- answers.
  unfoldable pub issued_reply : SeenIdToken AC GC → Meant (SeenSignedIn AC GC)
  issued_reply id_token = do
    login_error.TooLong place.Callback when is_over_long (callback_query t.code b.request.state)
    login_error.TooLong place.TokenAnswer when is_over_long (token_body t.token id_token)
    login_error.TooLong place.UserInfoAnswer when (is_some b.user_info && is_over_long info_text)
    Ok (user_by id_token t.token t.user_info b.user_info)

  -- The reply is that, for the ID token that was issued: of the claims that were handed in, all of them, with the
  -- provider's issuer, the client as sole audience, the begin's nonce and the hash of the access token, signed by HS256 under
  -- the client's secret.
  pub record IsIssuedReply (reply : Meant (SeenSignedIn AC GC)) : Type 0 where
    pub id_token : SeenIdToken AC GC
    pub claims : hashed t.token own_claims ≡ Ok id_token.payload
    pub issued : IsIssued additional_out gender_data registration.secret t.token own_claims id_token
    pub is_reply : reply ≡ issued_reply id_token

  -- The same of what a callback answers, where there may have been no memory.
  abbrev pub SignsIn : Result (SeenSignedIn AC GC) (LoginError Infallible) → Type 0
  SignsIn (Ok signed) = IsIssuedReply (Ok signed)
  SignsIn (Err e) = Unless (wants_memory e) (IsIssuedReply (Err (seen e)))

-- ---- the law

-- A login that was granted signs in, or a text is too long: by the query of its code and its state, over a provider that has
-- its grant, whatever else was granted, answered and begun before, between and behind.
abbrev pub GrantSignsIn : {AC GC : Type 0} → (List SeenMember → Result AC Refusal) → (SeenMember → Result GC Refusal)
    → (AC → List OutSeen) → (GC → Data) → Type 0
GrantSignsIn {AC} {GC} additional gender additional_out gender_data =
    (p : SeenProvider) (logins : SeenLogins SymmetricKey) (t : ToIssue AC GC) (now : ℤ)
    (h : IsGrantedLogin additional gender additional_out gender_data p logins t now) (answers : List SeenAnswer)
    → let types = core_types additional gender in
    let a = attempt logins (callback_query t.code h.begin.request.state) now in
    answers ≡ served p (outcome types a answers).sent
    → IsIssuedReply additional_out gender_data p.settings h.registration h.begin t (outcome types a answers).reply

-- What `authorize` kept for the URL of a begin is a grant for that begin, from then on and as long as it stands there.
abbrev pub KeptGrantStands : {AC GC : Type 0} → (List SeenMember → Result AC Refusal) → (SeenMember → Result GC Refusal)
    → (AC → List OutSeen) → (GC → Data) → Type 0
KeptGrantStands {AC} {GC} additional gender additional_out gender_data =
    (before made p : SeenProvider) (url : Parts) (t : ToIssue AC GC) (query : List ℕ) (b : Begin) (registration : Registration)
    (k : Keeps additional gender additional_out gender_data t.claims t.user_info (asked_with url t) before made query)
    → IsUrlOf b url → registered before.registrations b.request.client_id ≡ Some registration
    → p.settings ≡ before.settings → grant_of_code p.grants t.code ≡ Some k.grant → finite.get p.grants.codes t.token ≡ Some t.code
    → HasGrantFor additional gender additional_out gender_data p t b registration
    × (query ≡ callback_query t.code b.request.state)
