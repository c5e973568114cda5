-- Which claims of user info are read back as they were written.
use Rattle.std.specs.Prelude.{◌≡◌, List, None, Some, option_map, Result, Ok}
use Rattle.std.specs.List.{All}
use Rattle.url.specs.Parser.{parse_url}
use Rattle.oidc_types.specs.{TextAndUrl}
use Rattle.oidc_members.specs.Seen.{SeenMember, OutSeen}
use Rattle.oidc_members.specs.Objects.{members_of}
use Rattle.oidc_members.specs.Write.{object_text}
use Rattle.oidc_members.specs.declared.reading.Reading.{Reading}
use Rattle.oidc_members.specs.declared.refusal.Refusal.{Refusal}
use Rattle.oidc_readers.specs.WrittenBack.{MayStand}
use Rattle.oidc_claims.specs.Write.{IsInRange}
use Rattle.oidc_user_info.specs.UserInfoClaims.{SeenUserInfoClaims, user_info_claims_of}

-- The issuer's URL, where there is an issuer, is that of its text; no claim in several languages is without a
-- value, no tag is empty, `updated_at` is at a whole second; and the additional claims give values that an
-- object may have.
pub record IsInfoInRange {AC GC : Type 0} (additional_out : AC → List OutSeen)
    (claims : SeenUserInfoClaims AC GC) : Type 0 where
  pub issuer : (found : TextAndUrl) → claims.issuer ≡ Some found → parse_url None found.text ≡ Ok found.url
  pub standard_claims : IsInRange claims.standard_claims
  pub values : All (λ m. MayStand m.value) (additional_out claims.additional_claims)

-- The object's text of those members is read as these claims, under every reading.
abbrev pub GivesInfoClaims : {AC GC : Type 0} → (List SeenMember → Result AC Refusal)
    → (SeenMember → Result GC Refusal) → List OutSeen → SeenUserInfoClaims AC GC → Type 0
GivesInfoClaims additional_read gender_read members claims =
    (reading : Reading)
    → option_map (user_info_claims_of additional_read gender_read reading) (members_of (object_text members))
    ≡ Some (Ok claims)
