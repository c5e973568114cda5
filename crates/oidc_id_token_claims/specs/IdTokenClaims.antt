-- The claims of an ID token, read and written (OpenID Connect Core 1.0 sections 2, 5.1 and 5.1.2).
use Rattle.std.specs.Prelude.{ℕ, List, ◌++◌, filter, Bool, Result, Ok}
use Rattle.std.specs.List.{list_any}
use Rattle.std.specs.Str.{bytes_eq}
use Rattle.serde_json.specs.Data.{Data}
use Rattle.oidc_members.specs.Seen.{SeenMember, OutSeen}
use Rattle.oidc_members.specs.declared.reading.Reading.{Reading}
use Rattle.oidc_members.specs.declared.refusal.Refusal.{Refusal}
use Rattle.oidc_readers.specs.Records.{◌>>=◌, Rule, either_rule, faultless}
use Rattle.oidc_claims.specs.Seen.{SeenClaims}
use Rattle.oidc_claims.specs.Claims.{fault_at}
use Rattle.oidc_claims.specs.Standard.{faultless_claims}
use Rattle.oidc_claims.specs.Home.{home_of, is_additional_home, id_token_fields}
use Rattle.oidc_claims.specs.Write.{written}
use Rattle.oidc_id_token_claims.specs.TokenFields.{SeenOwnClaims, own_rule, own_of, own_members}

pub record SeenIdTokenClaims (AC GC : Type 0) : Type 0 where
  pub own : SeenOwnClaims
  pub standard_claims : SeenClaims GC
  pub additional_claims : AC

-- A name of one of an ID token's own fields.
abbrev pub is_own_field : List ℕ → Bool
is_own_field name = list_any (λ field. bytes_eq field name) id_token_fields

-- A name of no own field and no standard claim.
abbrev pub is_additional_claim : List ℕ → Bool
is_additional_claim name = is_additional_home (home_of name id_token_fields)

-- the members that are neither one of these fields nor a standard claim, in their order
abbrev pub additional_among : List (List ℕ) → List SeenMember → List SeenMember
additional_among fields members = filter (λ m. is_additional_home (home_of m.name fields)) members

-- the additional members, in their order
abbrev pub additional_members : List SeenMember → List SeenMember
additional_members members = filter (λ m. is_additional_claim m.name) members

-- why a member is faulty, after all those before it: by its own field's row, or as a standard claim
abbrev pub id_token_rule : {GC : Type 0} → (SeenMember → Result GC Refusal) → Reading → Rule
id_token_rule gender_read reading = either_rule (own_rule reading) (fault_at gender_read reading)

module _ {AC GC : Type 0} (additional_read : List SeenMember → Result AC Refusal)
    (gender_read : SeenMember → Result GC Refusal) (reading : Reading) where
  -- What members say, none of which is faulty. A missing `iss`, `exp`, `iat` or `sub` refuses them, in
  -- this order, and then the additional claims may.
  unfoldable pub parts_in : List SeenMember → Result (SeenIdTokenClaims AC GC) Refusal
  parts_in members = do
    own ← own_of reading members
    standard ← faultless_claims gender_read reading members
    additional ← additional_read (additional_members members)
    Ok (record { own = own; standard_claims = standard; additional_claims = additional })

  -- The first faulty member refuses the list.
  unfoldable pub id_token_claims_of : List SeenMember → Result (SeenIdTokenClaims AC GC) Refusal
  id_token_claims_of members = do
    u ← faultless (id_token_rule gender_read reading) members
    parts_in members

-- the own fields, the standard claims, then the additional claims
abbrev pub id_token_members : {AC GC : Type 0} → (AC → List OutSeen) → (GC → Data)
    → SeenIdTokenClaims AC GC → List OutSeen
id_token_members additional_out gender_data c =
    own_members c.own ++ written gender_data c.standard_claims ++ additional_out c.additional_claims
