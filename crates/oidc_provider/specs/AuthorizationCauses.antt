-- Why the authorization endpoint of a provider double refuses, said without its table.
use Rattle.std.specs.Prelude.{◌≡◌, ◌≢◌, ◌⊎◌, true, false, None, Some, codes}
use Rattle.http_header.specs.FieldValue.{is_visible_text}
use Rattle.oidc_provider.specs.Grants.{has_code, has_token}
use Rattle.oidc_provider.specs.Provider.{SeenProvider}
use Rattle.oidc_provider.specs.Values.{Pairs, only, says}
use Rattle.oidc_provider.specs.Authorization.{Asked, AskedLogin, Allowed, client_of}
use Rattle.oidc_provider.specs.declared.settings.Registration.{Registration}
use Rattle.oidc_provider.specs.declared.errors.AuthorizeError.{AuthorizeError}
use Rattle.oidc_provider.specs.declared.errors.AuthorizeError.TheVariants.{Client, Redirect, Request, Subject, CodeUsed, TokenUsed, TokenText, Memory}

-- It asks for a code, proves by S256, and has one state, one nonce and one challenge: these of the login.
pub record AsksForCode (query : Pairs) (login : AskedLogin) : Type 0 where
  pub response_type : says query (codes "response_type") (codes "code") ≡ true
  pub method : says query (codes "code_challenge_method") (codes "S256") ≡ true
  pub state : only query (codes "state") ≡ Some login.state
  pub nonce : only query (codes "nonce") ≡ Some login.nonce
  pub challenge : only query (codes "code_challenge") ≡ Some login.challenge

-- It lacks one of the five, or has it twice, or with another word.
abbrev pub LacksOne : Pairs → Type 0
LacksOne query =
    (says query (codes "response_type") (codes "code") ≡ false)
    ⊎ ((says query (codes "code_challenge_method") (codes "S256") ≡ false)
    ⊎ ((only query (codes "state") ≡ None)
    ⊎ ((only query (codes "nonce") ≡ None)
    ⊎ (only query (codes "code_challenge") ≡ None))))

module _ (p : SeenProvider) (a : Asked) where
  -- ---- how far a request came: each record rests on the one before

  -- it names a registered client, and that one's redirect
  pub record NamesClient (client : Registration) : Type 0 where
    pub registered : client_of p a.query ≡ Some client
    pub own_redirect : says a.query (codes "redirect_uri") client.redirect.text ≡ true

  -- it asks for a code with all that a login has to have
  pub record AsksLogin (allowed : Allowed) : Type 0 where
    pub names : NamesClient allowed.client
    pub own_login : AsksForCode a.query allowed.login

  -- the two claims are about one subject
  pub record IsAbout (allowed : Allowed) : Type 0 where
    pub asks : AsksLogin allowed
    pub one_subject : a.subject ≡ a.info_subject

  -- no grant has the code
  pub record IsNewCode (allowed : Allowed) : Type 0 where
    pub about : IsAbout allowed
    pub new_code : has_code p.grants a.code ≡ false

  -- nor the access token
  pub record IsNewToken (allowed : Allowed) : Type 0 where
    pub code : IsNewCode allowed
    pub new_token : has_token p.grants a.token ≡ false

  -- ---- refusals

  -- it doesn't name one registered client
  abbrev pub NamesNoClient : Type 0
  NamesNoClient = client_of p a.query ≡ None

  pub record NamesAnotherRedirect : Type 0 where
    pub client : Registration
    pub registered : client_of p a.query ≡ Some client
    pub another : says a.query (codes "redirect_uri") client.redirect.text ≡ false

  pub record AsksForNoCode : Type 0 where
    pub client : Registration
    pub names : NamesClient client
    pub lacks : LacksOne a.query

  pub record IsAboutTwo : Type 0 where
    pub allowed : Allowed
    pub asks : AsksLogin allowed
    pub another : a.subject ≢ a.info_subject

  pub record HasUsedCode : Type 0 where
    pub allowed : Allowed
    pub about : IsAbout allowed
    pub used : has_code p.grants a.code ≡ true

  pub record HasUsedToken : Type 0 where
    pub allowed : Allowed
    pub new_code : IsNewCode allowed
    pub used : has_token p.grants a.token ≡ true

  pub record HasNoTokenText : Type 0 where
    pub allowed : Allowed
    pub new_token : IsNewToken allowed
    pub no_text : is_visible_text a.token ≡ false

  -- the cause of each refusal
  abbrev pub Cause : AuthorizeError → Type 0
  Cause Client = NamesNoClient
  Cause Redirect = NamesAnotherRedirect
  Cause Request = AsksForNoCode
  Cause Subject = IsAboutTwo
  Cause CodeUsed = HasUsedCode
  Cause TokenUsed = HasUsedToken
  Cause TokenText = HasNoTokenText
  Cause Memory = ⊥

  -- a refusal has its cause, unless it is want of memory
  abbrev pub HasCause : AuthorizeError → Type 0
  HasCause Memory = Unit {0}
  HasCause refusal = Cause refusal

  -- what is granted
  pub record IsAllowed (allowed : Allowed) : Type 0 where
    pub new_token : IsNewToken allowed
    pub token_text : is_visible_text a.token ≡ true
