-- A login over a provider double, and what it comes to (OpenID Connect Core 1.0 section 3.1.3).
use Rattle.std.specs.Prelude.{◌≡◌, ◌⊎◌, ℕ, List, [], ◌∷◌, true, false, ◌&&◌, Option, None, Some, is_some, Ok, codes, IsUtf8}
use Rattle.std.specs.FinMap as finite
use Rattle.url.specs.Parts.{serialize}
use Rattle.http_header.specs.FieldValue.{is_visible_text}
use Rattle.oidc_pairs.specs.Pairs.{pairs}
use Rattle.oidc_types.specs.{TextAndUrl}
use Rattle.oidc_oauth2.specs.Messages.{SeenAnswer}
use Rattle.oidc_oauth2.specs.Pkce.{s256}
use Rattle.oidc_oauth2.specs.Replies.{◌>>◌, ◌when◌}
use Rattle.oidc_oauth2.specs.Requests.{is_address}
use Rattle.oidc_oauth2.specs.TokenAnswers.{is_over_long, is_empty, record_in}
use Rattle.oidc_user_info.specs.UserInfoClaims.{SeenUserInfoClaims}
use Rattle.oidc_user_info.specs.InfoAnswers.{claims_in}
use Rattle.oidc_login.specs.Types.{SiteTypes}
use Rattle.oidc_login.specs.Logins.{SeenLogin}
use Rattle.oidc_login.specs.Token.{SeenIdToken, subject_of, tokens_read, IsAcceptedBy, FitsHash}
use Rattle.oidc_login.specs.SignedIn.{SeenSignedIn, signed_by, with_user_info}
use Rattle.oidc_login.specs.Callback.{Attempt, Meant, outcome}
use Rattle.oidc_login.specs.declared.types.UserInfoDemand.{UserInfoDemand}
use Rattle.oidc_login.specs.declared.errors.TooLong.TheVariants as place
use Rattle.oidc_login.specs.declared.errors.LoginError.TheVariants.{TooLong}
use Rattle.oidc_provider.specs.Settings.{registered}
use Rattle.oidc_provider.specs.Grants.{SeenGrant, grant_of_code}
use Rattle.oidc_provider.specs.Provider.{SeenProvider}
use Rattle.oidc_provider.specs.Issuing.{tokens}
use Rattle.oidc_provider.specs.Answers.{served}
use Rattle.oidc_provider.specs.declared.settings.Registration.{Registration}

-- The texts that go through a form text are UTF-8, as those of a program are.
pub record AreFormTexts (client : Registration) (login : SeenLogin) (redirect code : List ℕ) : Type 0 where
  pub code_text : IsUtf8 code
  pub verifier_text : IsUtf8 login.verifier
  pub redirect_text : IsUtf8 redirect
  pub id_text : IsUtf8 client.client_id
  pub secret_text : IsUtf8 client.secret

module _ {AC GC Key Use : Type 0} (types : SiteTypes AC GC Key Use) (p : SeenProvider) (a : Attempt Key) where
  -- the login that the query of a callback names, beside the code of this grant
  pub record NamesLogin (g : SeenGrant) (login : SeenLogin) : Type 0 where
    pub state : List ℕ
    pub query : pairs a.query ≡ (codes "code", g.code) ∷ (codes "state", state) ∷ []
    pub pending : finite.get a.pending state ≡ Some login

  -- the provider knows the client, by its ID and its secret, under the address that it sends to
  pub record Knows (g : SeenGrant) (client : Registration) : Type 0 where
    pub known : registered p.registrations g.client ≡ Some client
    pub own_id : a.client.client_id ≡ client.client_id
    pub own_secret : a.client.client_secret ≡ Some client.secret
    pub endpoint : TextAndUrl
    pub own_endpoint : a.client.token_uri ≡ Some endpoint
    pub same_address : serialize endpoint.url ≡ serialize p.settings.token.url
    pub address : is_address (serialize endpoint.url) ≡ true

  -- it granted this, with the redirect and the challenge of the login, and it wasn't redeemed since
  pub record StandsUnredeemed (g : SeenGrant) (login : SeenLogin) : Type 0 where
    pub of_own_code : grant_of_code p.grants g.code ≡ Some g
    pub of_own_token : finite.get p.grants.codes g.token ≡ Some g.code
    pub unredeemed : g.redeemed ≡ false
    pub redirect : TextAndUrl
    pub own_redirect : login.redirect_uri ≡ Some redirect
    pub same_redirect : redirect.text ≡ g.redirect
    pub same_challenge : s256 login.verifier ≡ g.challenge
    pub header_text : is_visible_text g.token ≡ true

  -- The token body holds the access token and this ID token, which the client accepts.
  pub record HoldsToken (g : SeenGrant) (login : SeenLogin) (id_token : SeenIdToken AC GC) : Type 0 where
    pub some_body : is_empty g.token_body ≡ false
    pub read : record_in (tokens_read types a.client.reading) g.token_body ≡ Ok (tokens g.token id_token)
    pub accepted : IsAcceptedBy types a.client login.nonce a.now id_token
    pub fits_hash : FitsHash types id_token accepted.key accepted.alg g.token

  -- The other body holds this user info, which is about the same user and may be unsigned.
  pub record HoldsInfo (g : SeenGrant) (id_token : SeenIdToken AC GC) (demand : UserInfoDemand)
      (found : SeenUserInfoClaims AC GC) : Type 0 where
    pub unsigned_allowed : demand.signed ≡ false
    pub endpoint : TextAndUrl
    pub own_endpoint : a.client.user_info_url ≡ Some endpoint
    pub same_address : endpoint.text ≡ p.settings.user_info.text
    pub address : is_address endpoint.text ≡ true
    pub read : claims_in types.additional types.gender a.client.reading g.info_body ≡ Ok found
    pub about : found.standard_claims.subject ≡ subject_of id_token

  -- a login over a provider that behaves
  pub record IsHonest (g : SeenGrant) (login : SeenLogin) (id_token : SeenIdToken AC GC)
      (found : SeenUserInfoClaims AC GC) : Type 0 where
    pub names : NamesLogin g login
    pub client : Registration
    pub knows : Knows g client
    pub granted : StandsUnredeemed g login
    pub texts : AreFormTexts client login granted.redirect.text g.code
    pub holds : HoldsToken g login id_token
    pub info : (login.user_info ≡ None)
        ⊎ ((demand : UserInfoDemand) × (login.user_info ≡ Some demand) × HoldsInfo g id_token demand found)

-- who is signed in: with the ID token and the access token, and with user info where it is demanded
abbrev pub user_by : {AC GC : Type 0} → SeenIdToken AC GC → List ℕ → SeenUserInfoClaims AC GC → Option UserInfoDemand
    → SeenSignedIn AC GC
user_by id_token token found None = signed_by id_token (tokens token id_token)
user_by id_token token found (Some demand) = with_user_info (signed_by id_token (tokens token id_token)) found

-- the reply to it: a text is too long, or the user is signed in
unfoldable pub honest_reply : {AC GC Key : Type 0} → Attempt Key → SeenGrant → SeenLogin → SeenIdToken AC GC
    → SeenUserInfoClaims AC GC → Meant (SeenSignedIn AC GC)
honest_reply a g login id_token found = do
  TooLong place.Callback when is_over_long a.query
  TooLong place.TokenAnswer when is_over_long g.token_body
  TooLong place.UserInfoAnswer when (is_some login.user_info && is_over_long g.info_body)
  Ok (user_by id_token g.token found login.user_info)

-- A login over a provider that behaves comes to that reply, where the provider answers its requests.
abbrev pub HonestSignsIn : {AC GC Key Use : Type 0} → SiteTypes AC GC Key Use → Type 0
HonestSignsIn {AC} {GC} {Key} types =
    (p : SeenProvider) (a : Attempt Key) (g : SeenGrant) (login : SeenLogin) (id_token : SeenIdToken AC GC)
    (found : SeenUserInfoClaims AC GC) (answers : List SeenAnswer)
    → IsHonest types p a g login id_token found
    → answers ≡ served p (outcome types a answers).sent
    → (outcome types a answers).reply ≡ honest_reply a g login id_token found
