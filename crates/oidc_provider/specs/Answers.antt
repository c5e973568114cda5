-- What a provider double answers to a request, row by row, and what it is then (RFC 6749 sections 2.3.1, 4.1.3, 5.1 and 5.2,
-- RFC 6750 sections 2.1 and 3.1, RFC 7636 section 4.6, OpenID Connect Core 1.0 section 5.3).
use Rattle.std.specs.Prelude.{ℕ, List, [], ◌∷◌, ◌++◌, drop, Bool, false, ◌&&◌, not, nat_eq, Option, None, Some, option_map, option_and_then, is_none, Result, Ok, Err, if◌then◌else◌, codes}
use Rattle.std.specs.Bool.{then_some}
use Rattle.std.specs.List.{list_any, starts_with}
use Rattle.std.specs.Option.{option_map_or}
use Rattle.std.specs.Str.{bytes_eq}
use Rattle.url.specs.Parts.{serialize}
use Rattle.http_header.specs.HeaderMap.{get}
use Rattle.http_header.specs.FieldValue.{is_visible_text}
use Rattle.oidc_pairs.specs.Pairs.{pairs}
use Rattle.oidc_oauth2.specs.Messages.{SeenRequest, SeenResponse, SeenAnswer}
use Rattle.oidc_oauth2.specs.Transport.{Log}
use Rattle.oidc_oauth2.specs.ClientAuth.{basic_credentials}
use Rattle.oidc_oauth2.specs.Pkce.{s256}
use Rattle.oidc_oauth2.specs.Replies.{◌>>◌, ◌when◌, ◌for◌}
use Rattle.oidc_provider.specs.Grants.{SeenGrant, grant_of_code, grant_of_token, redeemed_by}
use Rattle.oidc_provider.specs.Provider.{SeenProvider}
use Rattle.oidc_provider.specs.Values.{Pairs, only, says}
use Rattle.oidc_provider.specs.declared.settings.Registration.{Registration}

-- ---- who asks

-- the first `authorization` of a request
abbrev pub credentials_in : SeenRequest → Option (List ℕ)
credentials_in request = option_map (λ value. value.bytes) (get request.headers (codes "authorization"))

-- by a header: its Basic credentials; without one by its ID and its secret in the body, each once
abbrev pub authenticates_by : Option (List ℕ) → Pairs → Registration → Bool
authenticates_by (Some credentials) body r = bytes_eq credentials (basic_credentials r.client_id r.secret)
authenticates_by None body r =
    says body (codes "client_id") r.client_id && says body (codes "client_secret") r.secret

-- a client of this ID makes the request
abbrev pub is_of_client : List Registration → SeenRequest → List ℕ → Bool
is_of_client registrations request id =
    list_any (λ r. bytes_eq r.client_id id && authenticates_by (credentials_in request) (pairs request.body) r) registrations

-- some client does
abbrev pub is_authenticated : List Registration → SeenRequest → Bool
is_authenticated registrations request =
    list_any (authenticates_by (credentials_in request) (pairs request.body)) registrations

-- ---- for what

module _ (p : SeenProvider) (request : SeenRequest) where
  -- a POST to the token endpoint
  abbrev pub asks_for_tokens : Bool
  asks_for_tokens =
      bytes_eq request.method (codes "POST") && bytes_eq request.address (serialize p.settings.token.url)

  -- a GET of the user info endpoint
  abbrev pub asks_for_info : Bool
  asks_for_info = bytes_eq request.method (codes "GET") && bytes_eq request.address p.settings.user_info.text

  -- The grant of the one code that the body has, where it isn't redeemed and the client is its own, and the body has its
  -- redirect and a verifier of its challenge, each once.
  abbrev pub proves : SeenGrant → Bool
  proves grant = option_map_or (λ verifier. bytes_eq (s256 verifier) grant.challenge) (only (pairs request.body) (codes "code_verifier")) false

  abbrev pub may_redeem : SeenGrant → Bool
  may_redeem grant =
      not grant.redeemed && is_of_client p.registrations request grant.client
      && says (pairs request.body) (codes "redirect_uri") grant.redirect && proves grant

  abbrev pub asked_grant : Option SeenGrant
  asked_grant =
      option_and_then (λ grant. then_some (may_redeem grant) grant)
      (option_and_then (grant_of_code p.grants) (only (pairs request.body) (codes "code")))

-- the token of bearer credentials
abbrev pub bearer_in : List ℕ → Option (List ℕ)
bearer_in credentials =
    if is_visible_text credentials && starts_with nat_eq credentials (codes "Bearer ")
    then Some (drop 7 credentials)
    else None

-- the redeemed grant whose access token a request bears
abbrev pub borne_grant : SeenProvider → SeenRequest → Option SeenGrant
borne_grant p request =
    option_and_then (λ grant. then_some grant.redeemed grant)
    (option_and_then (grant_of_token p.grants) (option_and_then bearer_in (credentials_in request)))

-- ---- the answers

-- a response, and the code that is redeemed by it
pub record Answer : Type 0 where
  pub response : SeenResponse
  pub redeems : Option (List ℕ)

abbrev pub json : ℕ → List ℕ → SeenResponse
json status body = record { status = status; content_type = Some (codes "application/json"); body = body }

abbrev pub refused : ℕ → List ℕ → Answer
refused status error =
    record { response = json status (codes "{\"error\":\"" ++ error ++ codes "\"}"); redeems = None }

abbrev pub empty : ℕ → Answer
empty status = record { response = record { status = status; content_type = None; body = [] }; redeems = None }

abbrev pub tokens_of : SeenGrant → Answer
tokens_of grant = record { response = json 200 grant.token_body; redeems = Some grant.code }

abbrev pub user_info_of : SeenGrant → Answer
user_info_of grant = record { response = json 200 grant.info_body; redeems = None }

-- the answer of the first row that holds, or of the last
abbrev pub first_row : Result Answer Answer → Answer
first_row (Ok answer) = answer
first_row (Err answer) = answer

-- a grant, where the test holds
infixl 13 ◌where_it◌
abbrev pub ◌where_it◌ : Option SeenGrant → Bool → Option SeenGrant
grant where_it holds = if holds then grant else None

unfoldable pub provider_answer : SeenProvider → SeenRequest → Answer
provider_answer p r = first_row (do
  refused 401 (codes "invalid_client") when (asks_for_tokens p r && not (is_authenticated p.registrations r))
  refused 400 (codes "unsupported_grant_type") when (asks_for_tokens p r && not (says (pairs r.body) (codes "grant_type") (codes "authorization_code")))
  refused 400 (codes "invalid_grant") when (asks_for_tokens p r && is_none (asked_grant p r))
  tokens_of for (asked_grant p r where_it asks_for_tokens p r)
  user_info_of for (borne_grant p r where_it asks_for_info p r)
  empty 401 when asks_for_info p r
  Ok (empty 404))

-- the double behind a request
abbrev pub after : SeenProvider → SeenRequest → SeenProvider
after p request =
    let answer = provider_answer p request in record p {
      grants = redeemed_by p.grants answer.redeems;
      requests = p.requests ++ request ∷ [];
      answers = p.answers ++ Some answer.response ∷ [];
    }

-- what went over it, all of which is known
abbrev pub log_of : SeenProvider → Option Log
log_of p = Some (record { requests = p.requests; answers = p.answers })

-- what it answers to requests, one after another
abbrev pub served : SeenProvider → List SeenRequest → List SeenAnswer
served p [] = []
served p (request ∷ later) = Some (provider_answer p request).response ∷ served (after p request) later
