-- What the query of a callback names, and the request that exchanges its code: RFC 6749 sections 2.3.1, 4.1.2 and 4.1.3,
-- RFC 7636 section 4.5, OpenID Connect Core 1.0 sections 3.1.2.5 and 3.1.2.6.
use Rattle.std.specs.Prelude.{ℕ, List, Option, Some, option_map, option_and_then, codes}
use Rattle.std.specs.FinMap as finite
use Rattle.oidc_pairs.specs.Pairs.{values_in, only_of, first_of as first_value}
use Rattle.oidc_types.specs.{TextAndUrl}
use Rattle.oidc_types.specs.Vocabulary.{word_or}
use Rattle.oidc_types.specs.CoreAuthorization.{auth_error_text, auth_errors}
use Rattle.oidc_types.specs.declared.core_authorization.CoreAuthErrorResponseType.{CoreAuthErrorResponseType}
use Rattle.oidc_types.specs.declared.core_authorization.CoreAuthErrorResponseType.TheVariants.{Extension}
use Rattle.oidc_oauth2.specs.Messages.{SeenRequest}
use Rattle.oidc_oauth2.specs.Requests.{SeenCodeRequest, code_request}
use Rattle.oidc_client.specs.Client.{code_request_at}
use Rattle.oidc_login.specs.Types.{SeenLoginClient}
use Rattle.oidc_login.specs.Logins.{SeenLogin, Pending}

-- ---- the query

-- the one state, the first error and the one code among the pairs of a query
abbrev pub state_in : List (List ℕ × List ℕ) → Option (List ℕ)
state_in query = only_of (values_in query (codes "state"))

-- the word of an error's text (RFC 6749 section 4.1.2.1, OpenID Connect Core 1.0 section 3.1.2.6)
unfoldable pub error_word : List ℕ → CoreAuthErrorResponseType
error_word text = word_or auth_error_text auth_errors Extension text

abbrev pub error_in : List (List ℕ × List ℕ) → Option CoreAuthErrorResponseType
error_in query = option_map error_word (first_value (values_in query (codes "error")))

abbrev pub code_in : List (List ℕ × List ℕ) → Option (List ℕ)
code_in query = only_of (values_in query (codes "code"))

-- the pending login that a query names by its one state
abbrev pub login_named_by : Pending → List (List ℕ × List ℕ) → Option SeenLogin
login_named_by pending query = option_and_then (finite.get pending) (state_in query)

-- ---- the token request

module _ {Key : Type 0} where
  -- The client's own request for the code, with the verifier and the redirect of the login. Where the login has no
  -- redirect none is sent, whatever the client has.
  abbrev pub request_to : TextAndUrl → SeenLoginClient Key → SeenLogin → List ℕ → SeenCodeRequest
  request_to endpoint client login code = record (code_request_at client code endpoint) {
    verifier = Some login.verifier;
    redirect_uri = option_map (λ u. u.text) login.redirect_uri;
  }

  -- The request to the client's token endpoint, where its address is one that is sent to. A client
  -- without an endpoint has none, and no store either: `Logins::new` refuses it.
  unfoldable pub token_request : SeenLoginClient Key → SeenLogin → List ℕ → Option SeenRequest
  token_request client login code =
      option_and_then (λ endpoint. code_request (request_to endpoint client login code)) client.token_uri
