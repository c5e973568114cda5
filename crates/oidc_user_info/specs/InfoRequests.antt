-- The request for user info: a GET with a bearer token (OpenID Connect Core 1.0 section 5.3.1, RFC 6750 section
-- 2.1).
use Rattle.std.specs.Prelude.{◌≡◌, ℕ, List, [], ◌∷◌, not, Result, Ok, Err, codes}
use Rattle.http_header.specs.HeaderMap.{Entries}
use Rattle.http_header.specs.FieldValue.{FieldValue, plain_value, is_visible_text}
use Rattle.oidc_oauth2.specs.Messages.{SeenRequest}
use Rattle.oidc_oauth2.specs.HttpUtils.{bearer_of}
use Rattle.oidc_oauth2.specs.Requests.{is_address, header}
use Rattle.oidc_oauth2.specs.Replies.{◌>>◌, ◌when◌}
use Rattle.oidc_user_info.specs.InfoAnswers.{Demand}
use Rattle.oidc_user_info.specs.declared.errors.PrepareInfoError.{PrepareInfoError}
use Rattle.oidc_user_info.specs.declared.errors.PrepareInfoError.TheVariants.{Bearer, Uri, Memory}
use Rattle.oidc_user_info.specs.declared.requests.UserInfoResponseType.{UserInfoResponseType}
use Rattle.oidc_user_info.specs.declared.requests.UserInfoResponseType.TheVariants.{Json, Jwt}

-- the text of the endpoint as it was given, the token, the media type that is asked for, and what is asked of
-- the answer
pub record SeenInfoRequest (Key : Type 0) : Type 0 where
  pub address : List ℕ
  pub access_token : List ℕ
  pub response_type : UserInfoResponseType
  pub demand : Demand Key

abbrev pub media_type : UserInfoResponseType → List ℕ
media_type Json = codes "application/json"
media_type Jwt = codes "application/jwt"

-- what is asked for, and by which credentials
abbrev pub headers_with : UserInfoResponseType → FieldValue → Entries FieldValue
headers_with kind credentials =
    header (codes "accept") (media_type kind) ∷ (codes "authorization", credentials ∷ []) ∷ []

-- the GET of an address, whose body is empty
abbrev pub get_with : List ℕ → UserInfoResponseType → FieldValue → SeenRequest
get_with address kind credentials = record {
  method = codes "GET";
  address = address;
  headers = headers_with kind credentials;
  body = [];
}

-- the request, or why it isn't made
unfoldable pub info_request : {Key : Type 0} → SeenInfoRequest Key → Result SeenRequest PrepareInfoError
info_request r = do
  Bearer when not (is_visible_text r.access_token)
  Uri when not (is_address r.address)
  Ok (get_with r.address r.response_type (plain_value (bearer_of r.access_token)))

-- the result is the one that is meant, or `Memory`
abbrev pub Prepares : Result SeenRequest PrepareInfoError → Result SeenRequest PrepareInfoError → Type 0
Prepares (Err Memory) meant = Unit {0}
Prepares result meant = meant ≡ result
