-- A provider's document, and why a text is none that is taken (OpenID Connect Discovery 1.0 sections 3, 4.3 and 7.1,
-- RFC 7636 section 4.2).
use Rattle.std.specs.Prelude.{◌≡◌, ℕ, List, Bool, false, not, codes, Option, None, Some, Result, Ok, Err}
use Rattle.std.specs.List.{list_any}
use Rattle.std.specs.Str.{bytes_eq}
use Rattle.oidc_types.specs.{TextAndUrl}
use Rattle.oidc_members.specs.Objects.{split_of}
use Rattle.oidc_members.specs.declared.refusal.Refusal.{Refusal}
use Rattle.oidc_members.specs.declared.refusal.ParseError.{ParseError}
use Rattle.oidc_members.specs.declared.refusal.ParseError.TheVariants.{Refused}
use Rattle.oidc_members.specs.declared.refusal.ParseError.TheVariants as parsing
use Rattle.oidc_oauth2.specs.Replies.{◌>>=◌, ◌>>◌, ◌when◌, ◌for◌, ◌or_as◌}
use Rattle.oidc_discovery.specs.declared.urls.UrlFault.{UrlFault}
use Rattle.oidc_discovery.specs.declared.errors.MetadataUrl.{MetadataUrl}
use Rattle.oidc_discovery.specs.declared.errors.MetadataUrl.TheVariants.{Issuer, AuthorizationEndpoint, TokenEndpoint, UserinfoEndpoint, JwksUri, EndSessionEndpoint}
use Rattle.oidc_discovery.specs.declared.errors.DocumentError.{DocumentError}
use Rattle.oidc_discovery.specs.declared.errors.DocumentError.TheVariants.{Parse, OtherIssuer, Url, ChallengeMethods, Memory}
use Rattle.oidc_discovery.specs.Urls.{url_fault, issuer_fault}
use Rattle.oidc_discovery.specs.Metadata.{SeenMetadata, metadata_of}

-- the name of a URL's field
abbrev pub url_name : MetadataUrl → List ℕ
url_name Issuer = codes "issuer"
url_name AuthorizationEndpoint = codes "authorization_endpoint"
url_name TokenEndpoint = codes "token_endpoint"
url_name UserinfoEndpoint = codes "userinfo_endpoint"
url_name JwksUri = codes "jwks_uri"
url_name EndSessionEndpoint = codes "end_session_endpoint"

-- of a URL that may be absent
abbrev pub fault_if_there : Option TextAndUrl → Option UrlFault
fault_if_there None = None
fault_if_there (Some u) = url_fault u

-- challenge methods are listed, and S256 isn't among them
abbrev pub lacks_s256 : Option (List (List ℕ)) → Bool
lacks_s256 None = false
lacks_s256 (Some methods) = not (list_any (λ method. bytes_eq method (codes "S256")) methods)

-- what stands against a URL refuses it
abbrev pub unless_faulty : MetadataUrl → Option UrlFault → Result (Unit {0}) DocumentError
unless_faulty url fault = Url url for fault

-- Each URL is one that is taken.
abbrev pub urls_checked : SeenMetadata → Result (Unit {0}) DocumentError
urls_checked said = do
  unless_faulty Issuer (issuer_fault said.needed.issuer)
  unless_faulty AuthorizationEndpoint (url_fault said.needed.authorization_endpoint)
  unless_faulty TokenEndpoint (fault_if_there said.token_endpoint)
  unless_faulty UserinfoEndpoint (fault_if_there said.userinfo_endpoint)
  unless_faulty JwksUri (url_fault said.needed.jwks_uri)
  unless_faulty EndSessionEndpoint (fault_if_there said.end_session_endpoint)

-- The issuer is the text that was asked for, byte for byte (4.3).
unfoldable pub checked : List ℕ → SeenMetadata → Result (Unit {0}) DocumentError
checked asked said = do
  OtherIssuer when not (bytes_eq said.needed.issuer.text asked)
  urls_checked said
  ChallengeMethods when lacks_s256 said.challenge_methods

-- What holds of a document that is taken.
pub record IsTaken (asked : List ℕ) (said : SeenMetadata) : Type 0 where
  pub issuer : said.needed.issuer.text ≡ asked
  pub issuer_url : issuer_fault said.needed.issuer ≡ None
  pub authorization_url : url_fault said.needed.authorization_endpoint ≡ None
  pub token_url : fault_if_there said.token_endpoint ≡ None
  pub userinfo_url : fault_if_there said.userinfo_endpoint ≡ None
  pub keys_url : url_fault said.needed.jwks_uri ≡ None
  pub end_session_url : fault_if_there said.end_session_endpoint ≡ None
  pub challenges : lacks_s256 said.challenge_methods ≡ false

-- what the object says that a text is
abbrev pub metadata_in_text : List ℕ → Result SeenMetadata Refusal
metadata_in_text text = split_of text >>= metadata_of

-- what a text says of the provider whose issuer was asked for
unfoldable pub document_of : List ℕ → List ℕ → Result SeenMetadata DocumentError
document_of asked text = do
  said ← metadata_in_text text or_as Parse
  checked asked said
  Ok said

abbrev pub of_parse_error : ParseError → DocumentError
of_parse_error (Refused refusal) = Parse refusal
of_parse_error parsing.Memory = Memory

-- the fact, unless the result is want of memory
abbrev pub UnlessMemory : {V : Type 0} → Result V DocumentError → Type 0 → Type 0
UnlessMemory (Err Memory) Fact = Unit {0}
UnlessMemory result Fact = Fact

-- a text is read as this for the issuer that was asked for, or there was no memory
abbrev pub IsReadFor : List ℕ → List ℕ → Result SeenMetadata DocumentError → Type 0
IsReadFor asked text read = UnlessMemory read (document_of asked text ≡ read)
