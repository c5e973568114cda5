-- What the lines of a script say.
use Rattle.std.specs.Prelude.{ℕ, ℤ, List, Option}
use Rattle.oidc_oauth2.specs.Messages.{SeenAnswer}
use Rattle.oidc_members.specs.declared.reading.Reading.{Reading}
use Rattle.oidc_types.specs.{TextAndUrl}
use Rattle.oidc_types.specs.declared.core_algorithms.CoreJwsSigningAlgorithm.{CoreJwsSigningAlgorithm}

-- what a client line says of the client's provider: its issuer and its endpoints, of which that for user info may
-- be missing
pub record SeenProviderUrls : Type 0 where
  pub issuer : TextAndUrl
  pub auth : TextAndUrl
  pub token : TextAndUrl
  pub user_info : Option TextAndUrl

-- a client line: the client's ID, and its secret and its redirect where it has them; its provider's issuer and
-- endpoints, the signing algorithms that it allows, and its reading
pub record SeenClientLine : Type 0 where
  pub id : List ℕ
  pub secret : Option (List ℕ)
  pub provider : SeenProviderUrls
  pub redirect : Option TextAndUrl
  pub algorithms : List CoreJwsSigningAlgorithm
  pub reading : Reading

-- a callback line: the moment in nanoseconds since the Unix epoch, the query, and what the provider answers
pub record SeenCallbackLine : Type 0 where
  pub now : ℤ
  pub query : List ℕ
  pub answers : List SeenAnswer
