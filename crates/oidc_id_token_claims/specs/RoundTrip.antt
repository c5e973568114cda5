-- Which claims of an ID token are read back as they were written.
use Rattle.std.specs.Prelude.{◌≡◌, List, None, Some, option_map, Result, Ok, IsFalse}
use Rattle.std.specs.List.{All}
use Rattle.url.specs.Parser.{parse_url}
use Rattle.serde_json.specs.Data.{Data}
use Rattle.oidc_members.specs.Seen.{SeenMember, OutSeen}
use Rattle.oidc_members.specs.Objects.{members_of}
use Rattle.oidc_members.specs.Write.{object_text}
use Rattle.oidc_members.specs.declared.reading.Reading.{Reading}
use Rattle.oidc_members.specs.declared.refusal.Refusal.{Refusal}
use Rattle.oidc_readers.specs.WrittenBack.{MayStand, IsUtf8Member}
use Rattle.oidc_claims.specs.Write.{IsWholeSecond, IsInRange}
use Rattle.oidc_id_token_claims.specs.IdTokenClaims.{SeenIdTokenClaims, is_own_field, id_token_claims_of, id_token_members}

-- The issuer's URL is that of its text, every moment is at a whole second, no claim in several languages
-- is without a value, no tag is empty, and the additional claims give values that an object may have and
-- no name of a field of the token.
pub record IsTokenInRange {AC GC : Type 0} (additional_out : AC → List OutSeen)
    (claims : SeenIdTokenClaims AC GC) : Type 0 where
  pub issuer : parse_url None claims.own.issuer.text ≡ Ok claims.own.issuer.url
  pub expiration : IsWholeSecond (Some claims.own.expiration)
  pub issue_time : IsWholeSecond (Some claims.own.issue_time)
  pub auth_time : IsWholeSecond claims.own.auth_time
  pub standard_claims : IsInRange claims.standard_claims
  pub values : All (λ m. MayStand m.value) (additional_out claims.additional_claims)
  pub names : All (λ m. IsFalse (is_own_field m.name)) (additional_out claims.additional_claims)

-- The object's text of those members is read as these claims, under every reading.
abbrev pub GivesTokenClaims : {AC GC : Type 0} → (List SeenMember → Result AC Refusal)
    → (SeenMember → Result GC Refusal) → List OutSeen → SeenIdTokenClaims AC GC → Type 0
GivesTokenClaims additional_read gender_read members claims =
    (reading : Reading)
    → option_map (id_token_claims_of additional_read gender_read reading) (members_of (object_text members))
    ≡ Some (Ok claims)

-- Claims in range whose written texts are UTF-8 are read back.
abbrev pub WrittenReadBack : {AC GC : Type 0} → (List SeenMember → Result AC Refusal) → (AC → List OutSeen)
    → (SeenMember → Result GC Refusal) → (GC → Data) → Type 0
WrittenReadBack {AC} {GC} additional_read additional_out gender_read gender_data =
    (claims : SeenIdTokenClaims AC GC) → let members = id_token_members additional_out gender_data claims in
    IsTokenInRange additional_out claims → All IsUtf8Member members
    → GivesTokenClaims additional_read gender_read members claims
