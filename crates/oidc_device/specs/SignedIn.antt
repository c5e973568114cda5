-- What contracts see of a user who is signed in on a device.
use Rattle.std.specs.Prelude.{ℕ, List, Option}
use Rattle.oidc_device.specs.Token.{SeenIdToken, Tokens}

-- the ID token with its claims, and the access token and any refresh token that came beside it
pub record SeenDeviceSignedIn (AC GC : Type 0) : Type 0 where
  pub id_token : SeenIdToken AC GC
  pub access_token : List ℕ
  pub refresh_token : Option (List ℕ)

-- a user with these tokens
abbrev pub signed_by : {AC GC : Type 0} → SeenIdToken AC GC → Tokens AC GC → SeenDeviceSignedIn AC GC
signed_by token tokens = record {
  id_token = token;
  access_token = tokens.access_token;
  refresh_token = tokens.refresh_token;
}
