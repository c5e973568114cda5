-- What contracts see of a provider's metadata (OpenID Connect Discovery 1.0 section 3), and the client that is
-- made of it.
use Rattle.std.specs.Prelude.{ℕ, List, Option, Some}
use Rattle.oidc_types.specs.{TextAndUrl}
use Rattle.oidc_client.specs.Client.{SeenClient, new_client}

pub record SeenProviderMetadata (Additional Key Algorithm : Type 0) : Type 0 where
  pub issuer : TextAndUrl
  pub authorization_endpoint : TextAndUrl
  pub token_endpoint : Option TextAndUrl
  pub userinfo_endpoint : Option TextAndUrl
  pub jwks_uri : TextAndUrl
  -- the keys that were found there
  pub jwks : List Key
  -- the algorithms by which the provider signs ID tokens
  pub signing_algorithms : List Algorithm
  pub additional_metadata : Additional

-- The client allows the provider's algorithms.
abbrev pub client_of_provider : {A Key Algorithm : Type 0} → SeenProviderMetadata A Key Algorithm → List ℕ
    → Option (List ℕ) → SeenClient Key Algorithm
client_of_provider provider client_id secret =
    record (new_client client_id provider.issuer provider.jwks) {
      client_secret = secret;
      allowed = Some provider.signing_algorithms;
      auth_uri = Some provider.authorization_endpoint;
      token_uri = provider.token_endpoint;
      user_info_url = provider.userinfo_endpoint;
    }
