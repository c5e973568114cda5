-- What contracts see of a user who is signed in.
use Rattle.std.specs.Prelude.{◌≡◌, ℕ, List, true, Option, None, Some, is_some}
use Rattle.std.proofs.lemmas.Bool.{false≢true}
use Rattle.oidc_user_info.specs.UserInfoClaims.{SeenUserInfoClaims}
use Rattle.oidc_login.specs.Token.{SeenIdToken, Tokens}

-- the ID token with its claims, the access token and any refresh token that came beside it, and user info, where
-- the login asks for it
pub record SeenSignedIn (AC GC : Type 0) : Type 0 where
  pub id_token : SeenIdToken AC GC
  pub access_token : List ℕ
  pub refresh_token : Option (List ℕ)
  pub user_info : Option (SeenUserInfoClaims AC GC)

-- a user with these tokens
abbrev pub signed_by : {AC GC : Type 0} → SeenIdToken AC GC → Tokens AC GC → SeenSignedIn AC GC
signed_by token tokens = record {
  id_token = token;
  access_token = tokens.access_token;
  refresh_token = tokens.refresh_token;
  user_info = None;
}

-- a user about whom this is known too
abbrev pub with_user_info : {AC GC : Type 0} → SeenSignedIn AC GC → SeenUserInfoClaims AC GC → SeenSignedIn AC GC
with_user_info user found = record user { user_info = Some found }

-- ---- the tokens of one who is signed in

-- what is there
abbrev pub present : {A : Type 0} (o : Option A) → is_some o ≡ true → A
present None there = absurd (false≢true there)
present (Some x) there = x
