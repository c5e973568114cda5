-- The requests of the token layer: a POST of form pairs (RFC 6749 sections 2.3.1, 3.2 and 4.1.3,
-- RFC 7636 section 4.5).
use Rattle.std.specs.Prelude.{◌≡◌, ℕ, List, [], ◌∷◌, ◌++◌, Option, None, Some, option_map, length, Bool, ◌&&◌, nat_le, if◌then◌else◌, codes, Result, Ok, Err}
use Rattle.std.specs.List.{list_all}
use Rattle.http_header.specs.HeaderMap.{Entries}
use Rattle.http_header.specs.FieldValue.{FieldValue, plain_value}
use Rattle.oidc_pairs.specs.Form.{form}
use Rattle.oidc_members.specs.declared.reading.Reading.{Reading}
use Rattle.oidc_oauth2.specs.Messages.{SeenRequest}
use Rattle.oidc_oauth2.specs.ClientAuth.{SeenClientAuth, authorization_of, client_pairs, pair_if}
use Rattle.oidc_oauth2.specs.declared.requests.PrepareError.{PrepareError}
use Rattle.oidc_oauth2.specs.declared.requests.PrepareError.TheVariants.{Uri, Memory}

-- visible ASCII
abbrev pub is_visible_byte : ℕ → Bool
is_visible_byte b = nat_le 0x21 b && nat_le b 0x7E

-- an address that is sent to: at most 65,534 bytes of visible ASCII
abbrev pub is_address : List ℕ → Bool
is_address address = nat_le (length address) 65_534 && list_all is_visible_byte address

abbrev pub header : List ℕ → List ℕ → List ℕ × List FieldValue
header name value = (name, plain_value value ∷ [])

abbrev pub authorization_header : Option FieldValue → Entries FieldValue
authorization_header None = []
authorization_header (Some credentials) = (codes "authorization", credentials ∷ []) ∷ []

-- what is asked for, and what is sent, beside any credentials
abbrev pub headers_with : Option FieldValue → Entries FieldValue
headers_with authorization =
    header (codes "accept") (codes "application/json")
    ∷ header (codes "content-type") (codes "application/x-www-form-urlencoded")
    ∷ authorization_header authorization

abbrev pub request_headers : SeenClientAuth → Entries FieldValue
request_headers client = headers_with (option_map plain_value (authorization_of client))

-- the POST of these pairs to an address
abbrev pub post_of : List ℕ → SeenClientAuth → List (List ℕ × List ℕ) → SeenRequest
post_of address client pairs = record {
  method = codes "POST";
  address = address;
  headers = request_headers client;
  body = form pairs;
}

-- the same, where the address is one that is sent to
abbrev pub posted : List ℕ → SeenClientAuth → List (List ℕ × List ℕ) → Option SeenRequest
posted address client pairs = if is_address address then Some (post_of address client pairs) else None

-- ---- the request that exchanges a code

-- the address of the token endpoint, the client, the code, its verifier, the redirect of its
-- authorization request, and further pairs; and the reading of an ID token in the answer
pub record SeenCodeRequest : Type 0 where
  pub address : List ℕ
  pub client : SeenClientAuth
  pub code : List ℕ
  pub verifier : Option (List ℕ)
  pub redirect_uri : Option (List ℕ)
  pub extra : List (List ℕ × List ℕ)
  pub reading : Reading

abbrev pub grant_pairs : SeenCodeRequest → List (List ℕ × List ℕ)
grant_pairs r =
    (codes "grant_type", codes "authorization_code") ∷ (codes "code", r.code) ∷ pair_if (codes "code_verifier") r.verifier

abbrev pub code_pairs : SeenCodeRequest → List (List ℕ × List ℕ)
code_pairs r = grant_pairs r ++ client_pairs r.client ++ pair_if (codes "redirect_uri") r.redirect_uri ++ r.extra

unfoldable pub code_request : SeenCodeRequest → Option SeenRequest
code_request r = if is_address r.address then Some (post_of r.address r.client (code_pairs r)) else None

-- ---- a request that is made

-- the result is the request that is meant, `Uri` where none is, or `Memory`
abbrev pub Prepares : Result SeenRequest PrepareError → Option SeenRequest → Type 0
Prepares (Ok request) meant = meant ≡ Some request
Prepares (Err Uri) meant = meant ≡ None
Prepares (Err Memory) meant = Unit {0}
