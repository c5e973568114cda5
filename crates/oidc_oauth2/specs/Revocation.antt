-- A token that can be revoked, and the word for its kind (RFC 7009 section 2.1).
use Rattle.std.specs.Prelude.{ℕ, List, Option, Some, codes}
use Rattle.oidc_oauth2.specs.declared.revocation.CoreRevocableToken.{CoreRevocableToken}
use Rattle.oidc_oauth2.specs.declared.revocation.CoreRevocableToken.TheVariants.{AccessToken, RefreshToken}

abbrev pub revocable_secret : CoreRevocableToken → List ℕ
revocable_secret (AccessToken token) = token
revocable_secret (RefreshToken token) = token

abbrev pub revocable_hint : CoreRevocableToken → Option (List ℕ)
revocable_hint (AccessToken token) = Some (codes "access_token")
revocable_hint (RefreshToken token) = Some (codes "refresh_token")
