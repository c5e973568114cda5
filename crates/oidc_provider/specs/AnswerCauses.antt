-- Why a provider double answers a request as it does, said without the table of its answers.
use Rattle.std.specs.Prelude.{◌≡◌, ◌⊎◌, ℕ, List, ◌++◌, true, false, None, Some, codes}
use Rattle.std.specs.List.{Contains}
use Rattle.url.specs.Parts.{serialize}
use Rattle.http_header.specs.FieldValue.{is_visible_text}
use Rattle.oidc_pairs.specs.Pairs.{pairs}
use Rattle.oidc_oauth2.specs.Messages.{SeenRequest, SeenResponse}
use Rattle.oidc_oauth2.specs.ClientAuth.{basic_credentials}
use Rattle.oidc_oauth2.specs.Pkce.{s256}
use Rattle.oidc_provider.specs.Grants.{SeenGrant, grant_of_code, grant_of_token, redeemed_by}
use Rattle.oidc_provider.specs.Provider.{SeenProvider}
use Rattle.oidc_provider.specs.Values.{only}
use Rattle.oidc_provider.specs.Answers.{Answer, credentials_in, refused, empty, tokens_of, user_info_of}
use Rattle.oidc_provider.specs.declared.settings.Registration.{Registration}

-- what a request is answered for
pub data Reason : Type 0 where
  no_client : Reason
  other_grant_type : Reason
  no_grant : Reason
  redeems : SeenGrant → Reason
  bears : SeenGrant → Reason
  no_token : Reason
  nothing_asked : Reason

-- the answer to each, with the code that is redeemed by it
abbrev pub answer_for : Reason → Answer
answer_for no_client = refused 401 (codes "invalid_client")
answer_for other_grant_type = refused 400 (codes "unsupported_grant_type")
answer_for no_grant = refused 400 (codes "invalid_grant")
answer_for (redeems grant) = tokens_of grant
answer_for (bears grant) = user_info_of grant
answer_for no_token = empty 401
answer_for nothing_asked = empty 404

module _ (p : SeenProvider) (r : SeenRequest) where
  -- ---- who asks

  -- its body has one pair of this name, with this value
  abbrev pub Has : List ℕ → List ℕ → Type 0
  Has name value = only (pairs r.body) name ≡ Some value

  -- by its Basic credentials
  abbrev pub IsByHeader : Registration → Type 0
  IsByHeader client = credentials_in r ≡ Some (basic_credentials client.client_id client.secret)

  -- or, without a header, by its ID and its secret
  pub record IsByBody (client : Registration) : Type 0 where
    pub no_header : credentials_in r ≡ None
    pub id : Has (codes "client_id") client.client_id
    pub secret : Has (codes "client_secret") client.secret

  -- a client makes the request
  pub record IsMadeBy (client : Registration) : Type 0 where
    pub registered : Contains p.registrations client
    pub authenticated : IsByHeader client ⊎ IsByBody client

  -- ---- for what: each record rests on the one before

  -- a POST to the token endpoint
  pub record AsksForTokens : Type 0 where
    pub method : r.method ≡ codes "POST"
    pub address : r.address ≡ serialize p.settings.token.url

  -- from a client
  pub record AsksAsClient : Type 0 where
    pub tokens : AsksForTokens
    pub client : Registration
    pub made : IsMadeBy client

  -- for the tokens of a code
  pub record AsksByCode : Type 0 where
    pub asks : AsksAsClient
    pub grant_type : Has (codes "grant_type") (codes "authorization_code")

  -- The grant of its code isn't redeemed, and is a client's own that makes the request; it has the request's redirect, and
  -- the challenge of its verifier.
  pub record IsFor (grant : SeenGrant) : Type 0 where
    pub code : List ℕ
    pub own_code : Has (codes "code") code
    pub granted : grant_of_code p.grants code ≡ Some grant
    pub unredeemed : grant.redeemed ≡ false
    pub client : Registration
    pub made : IsMadeBy client
    pub own_client : client.client_id ≡ grant.client
    pub own_redirect : Has (codes "redirect_uri") grant.redirect
    pub verifier : List ℕ
    pub own_verifier : Has (codes "code_verifier") verifier
    pub proved : s256 verifier ≡ grant.challenge

  -- a GET of user info
  pub record AsksForInfo : Type 0 where
    pub method : r.method ≡ codes "GET"
    pub address : r.address ≡ p.settings.user_info.text

  -- its header is `Bearer`, a space and the access token of this grant, which is redeemed
  pub record BearsTokenOf (grant : SeenGrant) : Type 0 where
    pub token : List ℕ
    pub header : credentials_in r ≡ Some (codes "Bearer " ++ token)
    pub visible : is_visible_text (codes "Bearer " ++ token) ≡ true
    pub granted : grant_of_token p.grants token ≡ Some grant
    pub redeemed : grant.redeemed ≡ true

  -- ---- why

  pub record NoClientAsks : Type 0 where
    pub tokens : AsksForTokens
    pub none : (client : Registration) → IsMadeBy client → ⊥

  pub record AsksByAnother : Type 0 where
    pub asks : AsksAsClient
    pub another : Has (codes "grant_type") (codes "authorization_code") → ⊥

  pub record RedeemsNone : Type 0 where
    pub asks : AsksByCode
    pub none : (grant : SeenGrant) → IsFor grant → ⊥

  pub record Redeems (grant : SeenGrant) : Type 0 where
    pub asks : AsksByCode
    pub is_for : IsFor grant

  pub record GetsInfo (grant : SeenGrant) : Type 0 where
    pub asks : AsksForInfo
    pub bears : BearsTokenOf grant

  pub record GetsNoInfo : Type 0 where
    pub asks : AsksForInfo
    pub none : (grant : SeenGrant) → BearsTokenOf grant → ⊥

  pub record AsksForNothing : Type 0 where
    pub no_tokens : AsksForTokens → ⊥
    pub no_info : AsksForInfo → ⊥

  -- the cause of each answer
  abbrev pub Cause : Reason → Type 0
  Cause no_client = NoClientAsks
  Cause other_grant_type = AsksByAnother
  Cause no_grant = RedeemsNone
  Cause (redeems grant) = Redeems grant
  Cause (bears grant) = GetsInfo grant
  Cause no_token = GetsNoInfo
  Cause nothing_asked = AsksForNothing

  -- ---- what comes of it

  -- The response is the one for this reason, and the provider has then the grants of before, of which the one of the code
  -- that it redeems, if any, is redeemed.
  pub record IsAnswered (reason : Reason) (new : SeenProvider) (response : SeenResponse) : Type 0 where
    pub own_response : response ≡ (answer_for reason).response
    pub grants : new.grants ≡ redeemed_by p.grants (answer_for reason).redeems

  -- an answer has its cause
  pub record HasCause (new : SeenProvider) (response : SeenResponse) : Type 0 where
    pub reason : Reason
    pub cause : Cause reason
    pub answered : IsAnswered reason new response
