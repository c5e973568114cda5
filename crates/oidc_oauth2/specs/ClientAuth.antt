-- How a client names itself to a token endpoint (RFC 6749 section 2.3.1, RFC 7617).
use Rattle.std.specs.Prelude.{ℕ, List, [], ◌∷◌, ◌++◌, Option, None, Some, codes}
use Rattle.std.specs.Option.{option_copied}
use Rattle.base64.specs.GeneralPurpose.{encode_of}
use Rattle.base64.specs.Engines.{standard}
use Rattle.oidc_pairs.specs.Form.{escaped}
use Rattle.oidc_oauth2.specs.declared.client_auth.AuthType.{AuthType}
use Rattle.oidc_oauth2.specs.declared.client_auth.AuthType.TheVariants.{BasicAuth, RequestBody}
use Rattle.oidc_oauth2.specs.declared.client_auth.ClientAuth.{ClientAuth}

-- a client: its ID, its secret, where it has one, and how it sends that
pub record SeenClientAuth : Type 0 where
  pub client_id : List ℕ
  pub client_secret : Option (List ℕ)
  pub auth_type : AuthType

abbrev pub seen_client : ClientAuth → SeenClientAuth
seen_client auth = record {
  client_id = auth.client_id.now;
  client_secret = option_copied auth.client_secret;
  auth_type = auth.auth_type;
}

-- client ID and secret, each form-coded, as Basic credentials
abbrev pub basic_credentials : List ℕ → List ℕ → List ℕ
basic_credentials id secret = codes "Basic " ++ encode_of standard (escaped id ++ codes ":" ++ escaped secret)

-- the credentials that a client sends in a header: a client with a secret does, unless it sends it in
-- the body
abbrev pub authorization_with : AuthType → List ℕ → Option (List ℕ) → Option (List ℕ)
authorization_with BasicAuth id (Some secret) = Some (basic_credentials id secret)
authorization_with BasicAuth id None = None
authorization_with RequestBody id secret = None

abbrev pub authorization_of : SeenClientAuth → Option (List ℕ)
authorization_of client = authorization_with client.auth_type client.client_id client.client_secret

abbrev pub pair_if : List ℕ → Option (List ℕ) → List (List ℕ × List ℕ)
pair_if name None = []
pair_if name (Some value) = (name, value) ∷ []

-- the pairs of a client whose ID and secret stand in the body
abbrev pub credential_pairs : List ℕ → Option (List ℕ) → List (List ℕ × List ℕ)
credential_pairs id secret = (codes "client_id", id) ∷ pair_if (codes "client_secret") secret

abbrev pub pairs_unless_sent : Option (List ℕ) → SeenClientAuth → List (List ℕ × List ℕ)
pairs_unless_sent (Some credentials) client = []
pairs_unless_sent None client = credential_pairs client.client_id client.client_secret

-- the pairs that name a client in the body, where no header does
abbrev pub client_pairs : SeenClientAuth → List (List ℕ × List ℕ)
client_pairs client = pairs_unless_sent (authorization_of client) client
