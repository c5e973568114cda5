-- The types that the program brings to its logins: it keeps all additional claims, takes any text as a gender, and has
-- symmetric keys.
use Rattle.std.specs.Prelude.{ℕ, List}
use Rattle.serde_json.specs.Data.{string}
use Rattle.oidc_members.specs.Write.{object_text}
use Rattle.oidc_readers.specs.Kinds.{text_kind}
use Rattle.oidc_claims.specs.Others.{Others, read_others, list_of}
use Rattle.oidc_keys.specs.CoreJwk.{SymmetricKey}
use Rattle.oidc_keys.specs.declared.core_jwk.CoreJsonWebKeyUse.{CoreJsonWebKeyUse}
use Rattle.oidc_keys.specs.contracts.core_jwk.CoreJsonWebKeyJsonWebKey.TheImpl.{ghosts as of_keys}
use Rattle.oidc_keys.specs.contracts.core_jwk.CoreJsonWebKeyUseJsonWebKeyUse.TheImpl.{ghosts as of_uses}
use Rattle.oidc_id_token_claims.specs.IdTokenClaims.{SeenIdTokenClaims, id_token_members}
use Rattle.oidc_user_info.specs.UserInfoClaims.{SeenUserInfoClaims, user_info_members}
use Rattle.oidc_login.specs.Types.{SiteTypes, site_types}
use Rattle.oidc_login.specs.Types as logins
use Rattle.oidc_login.specs.SignedIn as users

abbrev pub types : SiteTypes Others (List ℕ) SymmetricKey CoreJsonWebKeyUse
types = site_types read_others text_kind of_keys of_uses

abbrev pub SeenScriptClient : Type 0
SeenScriptClient = logins.SeenLoginClient SymmetricKey

abbrev pub SeenSignedIn : Type 0
SeenSignedIn = users.SeenSignedIn Others (List ℕ)

abbrev pub SeenClaims : Type 0
SeenClaims = SeenIdTokenClaims Others (List ℕ)

abbrev pub SeenUserInfo : Type 0
SeenUserInfo = SeenUserInfoClaims Others (List ℕ)

-- ---- claims as they are written

-- the compact text of an ID token's claims
abbrev pub claims_text : SeenClaims → List ℕ
claims_text claims = object_text (id_token_members list_of string claims)

-- that of user info
abbrev pub user_info_text : SeenUserInfo → List ℕ
user_info_text claims = object_text (user_info_members list_of string claims)
