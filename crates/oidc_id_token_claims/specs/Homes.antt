-- Every member of claims has one home: it is a field of the token, a standard claim, or additional (OpenID Connect
-- Core 1.0 sections 2, 5.1, 5.1.2 and 5.3.2).
use Rattle.std.specs.Prelude.{◌≡◌, ℕ, List, [], ◌∷◌, filter, Bool, count_by, Result, Ok}
use Rattle.std.specs.List.{All, list_any}
use Rattle.std.specs.Str.{bytes_eq}
use Rattle.oidc_members.specs.Seen.{SeenMember}
use Rattle.oidc_members.specs.declared.reading.Reading.{Reading}
use Rattle.oidc_members.specs.declared.refusal.Refusal.{Refusal}
use Rattle.oidc_claims.specs.Claims.{is_of}
use Rattle.oidc_claims.specs.Home.{home_of, is_additional_home, id_token_fields}
use Rattle.oidc_claims.specs.Table.{all_claims}
use Rattle.oidc_claims.specs.Standard.{faultless_claims}
use Rattle.oidc_id_token_claims.specs.TokenFields.{own_of}
use Rattle.oidc_id_token_claims.specs.IdTokenClaims.{SeenIdTokenClaims, id_token_claims_of}

-- Its whole name is that of one of these fields.
abbrev pub is_field : List (List ℕ) → SeenMember → Bool
is_field fields m = list_any (λ field. bytes_eq field m.name) fields

-- It is a standard claim's, whatever its tag.
abbrev pub is_standard : SeenMember → Bool
is_standard m = list_any (λ claim. is_of claim m) all_claims

-- It is neither one of these fields nor a standard claim's.
abbrev pub is_additional : List (List ℕ) → SeenMember → Bool
is_additional fields m = is_additional_home (home_of m.name fields)

-- A member has exactly one of the three homes.
abbrev pub HasOneHome : List (List ℕ) → SeenMember → Type 0
HasOneHome fields m = count_by (λ home. home m) (is_field fields ∷ is_standard ∷ is_additional fields ∷ []) ≡ 1

-- ---- of an ID token

module _ {AC GC : Type 0} (additional_read : List SeenMember → Result AC Refusal)
    (gender_read : SeenMember → Result GC Refusal) where
  -- Of members that are accepted under a reading, each has one home, and each part of the claims is what the
  -- members of its own home say.
  pub record HaveOneHome (reading : Reading) (members : List SeenMember)
      (claims : SeenIdTokenClaims AC GC) : Type 0 where
    pub homes : All (HasOneHome id_token_fields) members
    pub own : own_of reading (filter (is_field id_token_fields) members) ≡ Ok claims.own
    pub standard : faultless_claims gender_read reading (filter is_standard members) ≡ Ok claims.standard_claims
    pub additional : additional_read (filter (is_additional id_token_fields) members) ≡ Ok claims.additional_claims

  abbrev pub AcceptedHaveOneHome : Type 0
  AcceptedHaveOneHome =
      (reading : Reading) (members : List SeenMember) (claims : SeenIdTokenClaims AC GC)
      → id_token_claims_of additional_read gender_read reading members ≡ Ok claims
      → HaveOneHome reading members claims
