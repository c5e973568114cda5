-- The requests of a client to its authorization server, all by one description: a POST of form pairs
-- (RFC 6749 sections 2.3.1, 3.2, 3.3, 4.3.2, 4.4.2 and 6, RFC 7009 section 2.1, RFC 7662 section 2.1, RFC 8628
-- sections 3.1 and 3.4).
use Rattle.std.specs.Prelude.{ℕ, List, [], ◌∷◌, ◌++◌, Option, None, if◌then◌else◌, codes}
use Rattle.oidc_members.specs.declared.reading.Reading.{Reading}
use Rattle.oidc_members.specs.Seen.{strict}
use Rattle.oidc_oauth2.specs.Messages.{SeenRequest}
use Rattle.oidc_oauth2.specs.ClientAuth.{SeenClientAuth, client_pairs, pair_if}
use Rattle.oidc_oauth2.specs.TokenAnswers.{is_empty}
use Rattle.oidc_oauth2.specs.TokenResponse.{joined}
use Rattle.oidc_oauth2.specs.Requests.{SeenCodeRequest, grant_pairs, posted}

abbrev pub Pairs : Type 0
Pairs = List (List ℕ × List ℕ)

-- ---- what a request is made of

-- What differs between requests: the address, which is the text of the endpoint's parsed URL; the client, with how
-- it authenticates; the request's own pairs; the scopes that it asks for; a redirect; further pairs; and the reading of an
-- ID token in the answer, which is strict for requests of other answers.
pub record SeenFormRequest : Type 0 where
  pub address : List ℕ
  pub client : SeenClientAuth
  pub own : Pairs
  pub scopes : List (List ℕ)
  pub redirect_uri : Option (List ℕ)
  pub extra : Pairs
  pub reading : Reading

-- the scopes in one text, unless that is empty
abbrev pub scope_pairs : List (List ℕ) → Pairs
scope_pairs scopes = if is_empty (joined scopes) then [] else (codes "scope", joined scopes) ∷ []

-- all its pairs, in their order; the client is among them where no header names it
abbrev pub pairs_of : SeenFormRequest → Pairs
pairs_of r = r.own ++ scope_pairs r.scopes ++ client_pairs r.client ++ pair_if (codes "redirect_uri") r.redirect_uri ++ r.extra

-- the request, where its address is one that is sent to
unfoldable pub form_request : SeenFormRequest → Option SeenRequest
form_request r = posted r.address r.client (pairs_of r)

-- a request with these pairs of its own, and nothing else, under the strict reading
abbrev pub new_request : List ℕ → SeenClientAuth → Pairs → SeenFormRequest
new_request address client own = record {
  address = address;
  client = client;
  own = own;
  scopes = [];
  redirect_uri = None;
  extra = [];
  reading = strict;
}

-- ---- the own pairs of each request

abbrev grant : List ℕ → List ℕ × List ℕ
grant kind = (codes "grant_type", kind)

-- a refresh token (RFC 6749 section 6)
abbrev pub refresh_pairs : List ℕ → Pairs
refresh_pairs token = grant (codes "refresh_token") ∷ (codes "refresh_token", token) ∷ []

-- the name and the password of a person (section 4.3.2)
abbrev pub password_pairs : List ℕ → List ℕ → Pairs
password_pairs username password =
    grant (codes "password") ∷ (codes "username", username) ∷ (codes "password", password) ∷ []

-- the client for itself (section 4.4.2)
abbrev pub client_credentials_pairs : Pairs
client_credentials_pairs = grant (codes "client_credentials") ∷ []

-- a device's code, once its user was asked (RFC 8628 section 3.4)
abbrev pub device_code_pairs : List ℕ → Pairs
device_code_pairs code =
    grant (codes "urn:ietf:params:oauth:grant-type:device_code") ∷ (codes "device_code", code) ∷ []

-- codes for a device: no pairs of its own (RFC 8628 section 3.1)
abbrev pub device_pairs : Pairs
device_pairs = []

-- a token that is asked about or revoked, and the word for its kind, where there is one (RFC 7662 section 2.1,
-- RFC 7009 section 2.1)
abbrev pub token_pairs : List ℕ → Option (List ℕ) → Pairs
token_pairs token hint = (codes "token", token) ∷ pair_if (codes "token_type_hint") hint

-- ---- a request about a token, whose hint may change

pub record SeenIntrospectionRequest : Type 0 where
  pub token : List ℕ
  pub hint : Option (List ℕ)
  -- what it is made of beside its own pairs
  pub form : SeenFormRequest

abbrev pub of_introspection : SeenIntrospectionRequest → SeenFormRequest
of_introspection r = record r.form { own = token_pairs r.token r.hint }

-- ---- the request that exchanges a code

-- by the same description
abbrev pub of_code : SeenCodeRequest → SeenFormRequest
of_code r = record {
  address = r.address;
  client = r.client;
  own = grant_pairs r;
  scopes = [];
  redirect_uri = r.redirect_uri;
  extra = r.extra;
  reading = r.reading;
}
