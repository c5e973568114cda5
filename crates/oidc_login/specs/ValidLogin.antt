-- A login that is valid, said at once, without the table of a callback: RFC 6749 section 4.1, OpenID Connect Core
-- 1.0 sections 3.1.3.3 to 3.1.3.8, 5.3.1 and 5.3.2.
use Rattle.std.specs.Prelude.{◌≡◌, ◌⊎◌, ℕ, List, [], drop, None, Some, false, true, Ok, codes}
use Rattle.http_header.specs.FieldValue.{is_visible_text}
use Rattle.oidc_pairs.specs.Pairs.{pairs, values, only_of}
use Rattle.oidc_members.specs.declared.reading.Reading.{Reading}
use Rattle.oidc_oauth2.specs.Messages.{SeenRequest, SeenResponse, SeenAnswer}
use Rattle.oidc_oauth2.specs.Requests.{is_address}
use Rattle.oidc_oauth2.specs.Transport.{first_answer}
use Rattle.oidc_oauth2.specs.TokenAnswers.{is_over_long, is_empty, may_be_json, record_in}
use Rattle.oidc_user_info.specs.UserInfoClaims.{SeenUserInfoClaims}
use Rattle.oidc_user_info.specs.InfoAnswers.{claims_in}
use Rattle.oidc_types.specs.{TextAndUrl}
use Rattle.oidc_login.specs.Types.{SiteTypes}
use Rattle.oidc_login.specs.Logins.{SeenLogin}
use Rattle.oidc_login.specs.BeforeRequest.{token_request, login_named_by}
use Rattle.oidc_login.specs.Token.{Tokens, tokens_read, SeenIdToken, subject_of, IsAcceptedBy, FitsHash}
use Rattle.oidc_login.specs.Callback.{Attempt}
use Rattle.oidc_login.specs.declared.types.UserInfoDemand.{UserInfoDemand}

module _ {AC GC Key Use : Type 0} (types : SiteTypes AC GC Key Use) where
  -- a response of status 200 and media type JSON, or none, whose body of 1 to 1,048,576 bytes reads as these tokens under
  -- the client's reading
  pub record IsValidTokenAnswer (reading : Reading) (tokens : Tokens AC GC) (response : SeenResponse) : Type 0 where
    pub success : response.status ≡ 200
    pub json : may_be_json response ≡ true
    pub some_body : is_empty response.body ≡ false
    pub not_too_long : is_over_long response.body ≡ false
    pub read : record_in (tokens_read types reading) response.body ≡ Ok tokens

  -- the same for user info, whose members read so as these claims, about this subject
  pub record IsValidInfoAnswer (reading : Reading) (subject : List ℕ) (found : SeenUserInfoClaims AC GC)
      (response : SeenResponse) : Type 0 where
    pub success : response.status ≡ 200
    pub json : may_be_json response ≡ true
    pub not_too_long : is_over_long response.body ≡ false
    pub read : claims_in types.additional types.gender reading response.body ≡ Ok found
    pub about : found.standard_claims.subject ≡ subject

  module _ (a : Attempt Key) (answers : List SeenAnswer) where
    -- user info that is demanded, and may be unsigned, comes in the second answer
    pub record IsValidInfo (demand : UserInfoDemand) (access_token subject : List ℕ) : Type 0 where
      pub unsigned_allowed : demand.signed ≡ false
      pub header_text : is_visible_text access_token ≡ true
      pub endpoint : TextAndUrl
      pub own_endpoint : a.client.user_info_url ≡ Some endpoint
      pub address : is_address endpoint.text ≡ true
      pub response : SeenResponse
      pub response_came : first_answer (drop 1 answers) ≡ Some response
      pub found : SeenUserInfoClaims AC GC
      pub info_answer : IsValidInfoAnswer a.client.reading subject found response

    pub record IsValidLogin : Type 0 where
      -- the query has one `state` of a pending login, one `code`, and no `error`
      pub short_query : is_over_long a.query ≡ false
      pub login : SeenLogin
      pub login_named : login_named_by a.pending (pairs a.query) ≡ Some login
      pub no_error : values a.query (codes "error") ≡ []
      pub code : List ℕ
      pub one_code : only_of (values a.query (codes "code")) ≡ Some code
      -- the token request can be made, and tokens with an ID token come in its answer
      pub request : SeenRequest
      pub request_made : token_request a.client login code ≡ Some request
      pub response : SeenResponse
      pub response_came : first_answer answers ≡ Some response
      pub tokens : Tokens AC GC
      pub token_answer : IsValidTokenAnswer a.client.reading tokens response
      pub token : SeenIdToken AC GC
      pub own_id_token : tokens.extra_fields.id_token ≡ Some token
      -- which is accepted, and any `at_hash` in it is that of the access token
      pub accepted : IsAcceptedBy types a.client login.nonce a.now token
      pub fits_hash : FitsHash types token accepted.key accepted.alg tokens.access_token
      -- user info isn't demanded, or it comes
      pub info : (login.user_info ≡ None)
          ⊎ ((demand : UserInfoDemand) × (login.user_info ≡ Some demand)
          × IsValidInfo demand tokens.access_token (subject_of token))
