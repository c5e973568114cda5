-- The requests for a provider's document and for its set of keys (OpenID Connect Discovery 1.0 section 4.1).
use Rattle.std.specs.Prelude.{◌≡◌, ℕ, ◌-◌, List, [], ◌∷◌, ◌++◌, length, take, not, nat_eq, codes, Option, Result, Ok, Err, None, Some, if◌then◌else◌}
use Rattle.std.specs.List.{ends_with}
use Rattle.std.specs.Result.{result_ok}
use Rattle.http_header.specs.HeaderMap.{Entries}
use Rattle.http_header.specs.FieldValue.{FieldValue}
use Rattle.url.specs.Parts.{Parts, serialize}
use Rattle.url.specs.Parser.{parse_url}
use Rattle.oidc_types.specs.{TextAndUrl}
use Rattle.oidc_oauth2.specs.Messages.{SeenRequest}
use Rattle.oidc_oauth2.specs.Requests.{is_address, header}
use Rattle.oidc_oauth2.specs.Replies.{◌>>=◌, ◌>>◌, ◌when◌, ◌for◌, ◌or◌}
use Rattle.oidc_discovery.specs.declared.errors.FetchError.{FetchError}
use Rattle.oidc_discovery.specs.declared.errors.FetchError.TheVariants.{Url, Address, Memory}
use Rattle.oidc_discovery.specs.Urls.{url_fault, issuer_fault}

-- A slash at the end is removed.
abbrev pub without_slash : List ℕ → List ℕ
without_slash text = if ends_with nat_eq text (codes "/") then take (length text - 1) text else text

-- where the document of an issuer stands
abbrev pub document_text : List ℕ → List ℕ
document_text issuer = without_slash issuer ++ codes "/.well-known/openid-configuration"

-- the URL that the URL Standard reads of it
abbrev pub document_url : TextAndUrl → Option Parts
document_url issuer = result_ok (parse_url None (document_text issuer.text))

-- what is asked for
abbrev pub headers : Entries FieldValue
headers = header (codes "accept") (codes "application/json") ∷ []

-- the result is that URL, or there is none, or there was no memory
abbrev pub IsUrlOf : Option Parts → Result Parts FetchError → Type 0
IsUrlOf meant (Ok url) = meant ≡ Some url
IsUrlOf meant (Err Address) = meant ≡ None
IsUrlOf meant (Err Memory) = Unit {0}
IsUrlOf meant (Err (Url fault)) = ⊥

-- the GET of an address, for JSON
abbrev pub get_of : List ℕ → SeenRequest
get_of address = record {
  method = codes "GET";
  address = address;
  headers = headers;
  body = [];
}

abbrev pub get_url : Parts → Result SeenRequest FetchError
get_url url = do
  Address when not (is_address (serialize url))
  Ok (get_of (serialize url))

-- the request for the document of an issuer, or why it isn't made
unfoldable pub document_request : TextAndUrl → Result SeenRequest FetchError
document_request issuer = do
  Url for issuer_fault issuer
  url ← document_url issuer or Address
  get_url url

-- the request for a set of keys, or why it isn't made
unfoldable pub key_set_request : TextAndUrl → Result SeenRequest FetchError
key_set_request uri = do
  Url for url_fault uri
  get_url uri.url

-- the result is the one that is meant, or want of memory
abbrev pub IsPrepared : Result SeenRequest FetchError → Result SeenRequest FetchError → Type 0
IsPrepared (Err Memory) meant = Unit {0}
IsPrepared result meant = meant ≡ result
