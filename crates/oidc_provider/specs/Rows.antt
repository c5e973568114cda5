-- The table of answers, by the parts of a request that its rows look at, and the row that the code falls under. No public
-- clause cites this.
use Rattle.std.specs.Prelude.{ℕ, List, [], ◌&&◌, not, Bool, false, Option, None, Some, option_map, option_and_then, if◌then◌else◌, codes}
use Rattle.std.specs.Bool.{then_some}
use Rattle.std.specs.Borrow.{Bor}
use Rattle.std.specs.List.{list_any}
use Rattle.std.specs.Option.{option_map_or}
use Rattle.std.specs.Str.{bytes_eq}
use Rattle.url.specs.Parts.{serialize}
use Rattle.http_header.specs.HeaderMap.{Entries, get}
use Rattle.http_header.specs.FieldValue.{FieldValue}
use Rattle.oidc_oauth2.specs.Messages.{SeenRequest, SeenResponse}
use Rattle.oidc_oauth2.specs.Pkce.{s256}
use Rattle.oidc_provider.specs.Grants.{SeenGrant, SeenGrants, grant_of_code, grant_of_token}
use Rattle.oidc_provider.specs.Provider.{SeenProvider}
use Rattle.oidc_provider.specs.Values.{Pairs, only, says}
use Rattle.oidc_provider.specs.Answers.{Answer, authenticates_by, bearer_in, refused, empty, tokens_of, user_info_of}
use Rattle.oidc_provider.specs.declared.settings.ProviderSettings.{ProviderSettings}
use Rattle.oidc_provider.specs.declared.settings.Registration.{Registration}
use Rattle.oidc_provider.specs.declared.answers.Row.{Row}
use Rattle.oidc_provider.specs.declared.answers.Row.TheVariants.{InvalidClient, UnsupportedGrantType, InvalidGrant, Tokens, UserInfo, Unauthorized, NotFound}

-- a provider of these parts, for the rows look at no others
abbrev pub provider_of : ProviderSettings → List Registration → SeenGrants → SeenProvider
provider_of settings registrations grants = record {
  settings = settings;
  registrations = registrations;
  grants = grants;
  requests = [];
  answers = [];
}

abbrev pub bytes_of : Option (Bor FieldValue) → Option (List ℕ)
bytes_of value = option_map (λ v. v.now.bytes) value

abbrev pub is_post : ProviderSettings → SeenRequest → Bool
is_post settings request = bytes_eq request.method (codes "POST") && bytes_eq request.address (serialize settings.token.url)

abbrev pub is_get : ProviderSettings → SeenRequest → Bool
is_get settings request = bytes_eq request.method (codes "GET") && bytes_eq request.address settings.user_info.text

abbrev pub is_authenticated_by : Option (List ℕ) → Pairs → List Registration → Bool
is_authenticated_by credentials body registrations = list_any (authenticates_by credentials body) registrations

abbrev pub is_of_client_by : Option (List ℕ) → Pairs → List Registration → List ℕ → Bool
is_of_client_by credentials body registrations id =
    list_any (λ r. bytes_eq r.client_id id && authenticates_by credentials body r) registrations

abbrev pub proves_by : Pairs → List ℕ → Bool
proves_by body challenge = option_map_or (λ verifier. bytes_eq (s256 verifier) challenge) (only body (codes "code_verifier")) false

abbrev pub may_redeem_by : Option (List ℕ) → Pairs → List Registration → SeenGrant → Bool
may_redeem_by credentials body registrations grant =
    not grant.redeemed && is_of_client_by credentials body registrations grant.client
    && says body (codes "redirect_uri") grant.redirect && proves_by body grant.challenge

abbrev pub grant_asked_by : Option (List ℕ) → Pairs → List Registration → SeenGrants → Option SeenGrant
grant_asked_by credentials body registrations grants =
    option_and_then (λ grant. then_some (may_redeem_by credentials body registrations grant) grant)
    (option_and_then (grant_of_code grants) (only body (codes "code")))

abbrev pub borne_by : SeenGrants → Option (List ℕ) → Option SeenGrant
borne_by grants credentials =
    option_and_then (λ grant. then_some grant.redeemed grant)
    (option_and_then (grant_of_token grants) (option_and_then bearer_in credentials))

-- ---- answers by what was found

abbrev pub redeeming : Option SeenGrant → Answer
redeeming None = refused 400 (codes "invalid_grant")
redeeming (Some grant) = tokens_of grant

abbrev pub token_row_answer : Option (List ℕ) → Pairs → List Registration → SeenGrants → Answer
token_row_answer credentials body registrations grants =
    if is_authenticated_by credentials body registrations
    then (if says body (codes "grant_type") (codes "authorization_code")
    then redeeming (grant_asked_by credentials body registrations grants)
    else refused 400 (codes "unsupported_grant_type"))
    else refused 401 (codes "invalid_client")

abbrev pub info_row_answer : Option SeenGrant → Answer
info_row_answer None = empty 401
info_row_answer (Some grant) = user_info_of grant

abbrev pub row_answer : Row → Answer
row_answer InvalidClient = refused 401 (codes "invalid_client")
row_answer UnsupportedGrantType = refused 400 (codes "unsupported_grant_type")
row_answer InvalidGrant = refused 400 (codes "invalid_grant")
row_answer (Tokens grant) = tokens_of grant.now
row_answer (UserInfo grant) = user_info_of grant.now
row_answer Unauthorized = empty 401
row_answer NotFound = empty 404

abbrev pub seen_with : ℕ → Entries FieldValue → List ℕ → SeenResponse
seen_with status headers body =
    record { status = status; content_type = option_map (λ v. v.bytes) (get headers (codes "content-type")); body = body }
