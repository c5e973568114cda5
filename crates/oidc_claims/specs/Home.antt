-- Where a member of claims belongs (OpenID Connect Core 1.0 sections 2, 5.1, 5.1.2 and 5.3.2).
use Rattle.std.specs.Prelude.{ℕ, List, [], ◌∷◌, Bool, true, false, codes, is_some, if◌then◌else◌}
use Rattle.std.specs.List.{list_any}
use Rattle.std.specs.Str.{bytes_eq}
use Rattle.oidc_claims.specs.declared.home.Home.{Home}
use Rattle.oidc_claims.specs.declared.home.Home.TheVariants as home
use Rattle.oidc_claims.specs.Table.{claim_of, key_of}

-- the fields of an ID token beside its claims
abbrev pub id_token_fields : List (List ℕ)
id_token_fields =
    codes "iss" ∷ codes "aud" ∷ codes "exp" ∷ codes "iat" ∷ codes "auth_time" ∷ codes "nonce"
    ∷ codes "acr" ∷ codes "amr" ∷ codes "azp" ∷ codes "at_hash" ∷ codes "c_hash" ∷ []

-- the fields of a user info answer beside its claims
abbrev pub user_info_fields : List (List ℕ)
user_info_fields = codes "iss" ∷ codes "aud" ∷ []

-- A token field has that whole name. Else a standard claim has that base. Else the member is
-- additional.
abbrev pub home_by : Bool → Bool → Home
home_by is_token_field is_standard =
    if is_token_field then home.TokenField
    else if is_standard then home.Standard
    else home.Additional

abbrev pub home_of : List ℕ → List (List ℕ) → Home
home_of name fields =
    home_by (list_any (λ field. bytes_eq field name) fields) (is_some (claim_of (key_of name).0))

abbrev pub is_additional_home : Home → Bool
is_additional_home home.TokenField = false
is_additional_home home.Standard = false
is_additional_home home.Additional = true

-- The name is no user info field and no standard claim's.
abbrev pub is_additional : List ℕ → Bool
is_additional name = is_additional_home (home_of name user_info_fields)
