-- The types that the site brings to its logins: it keeps all additional claims, takes any text as a gender, and has
-- symmetric keys.
use Rattle.std.specs.Prelude.{ℕ, List}
use Rattle.oidc_readers.specs.Kinds.{text_kind}
use Rattle.oidc_claims.specs.Others.{Others, read_others}
use Rattle.oidc_keys.specs.CoreJwk.{SymmetricKey}
use Rattle.oidc_keys.specs.declared.core_jwk.CoreJsonWebKeyUse.{CoreJsonWebKeyUse}
use Rattle.oidc_keys.specs.contracts.core_jwk.CoreJsonWebKeyJsonWebKey.TheImpl.{ghosts as of_keys}
use Rattle.oidc_keys.specs.contracts.core_jwk.CoreJsonWebKeyUseJsonWebKeyUse.TheImpl.{ghosts as of_uses}
use Rattle.oidc.specs.Types.{SiteTypes, site_types}
use Rattle.oidc.specs.Types as logins
use Rattle.oidc.specs.SignedIn as users
use Rattle.oidc.specs.Token as tokens

abbrev pub types : SiteTypes Others (List ℕ) SymmetricKey CoreJsonWebKeyUse
types = site_types read_others text_kind of_keys of_uses

abbrev pub SeenClient : Type 0
SeenClient = logins.SeenLoginClient SymmetricKey

abbrev pub SeenUser : Type 0
SeenUser = users.SeenSignedIn Others (List ℕ)

-- what the token endpoint answers
abbrev pub SeenAnswer : Type 0
SeenAnswer = tokens.Tokens Others (List ℕ)
