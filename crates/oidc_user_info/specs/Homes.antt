-- Every member of a user info answer has one home (OpenID Connect Core 1.0 sections 5.1, 5.1.2 and 5.3.2).
use Rattle.std.specs.Prelude.{◌≡◌, List, filter, Result, Ok}
use Rattle.std.specs.List.{All}
use Rattle.oidc_members.specs.Seen.{SeenMember}
use Rattle.oidc_members.specs.declared.reading.Reading.{Reading}
use Rattle.oidc_members.specs.declared.refusal.Refusal.{Refusal}
use Rattle.oidc_readers.specs.Records.{optional}
use Rattle.oidc_claims.specs.Home.{user_info_fields}
use Rattle.oidc_claims.specs.Standard.{faultless_claims}
use Rattle.oidc_id_token_claims.specs.Homes.{is_field, is_standard, is_additional, HasOneHome}
use Rattle.oidc_user_info.specs.UserInfoClaims.{SeenUserInfoClaims, iss, aud, user_info_claims_of}

module _ {AC GC : Type 0} (additional_read : List SeenMember → Result AC Refusal)
    (gender_read : SeenMember → Result GC Refusal) where
  -- Of members that are accepted under a reading, each has one home, and each part of the claims is what the
  -- members of its own home say.
  pub record HaveOneHome (reading : Reading) (members : List SeenMember)
      (claims : SeenUserInfoClaims AC GC) : Type 0 where
    pub homes : All (HasOneHome user_info_fields) members
    pub issuer : optional iss (filter (is_field user_info_fields) members) ≡ claims.issuer
    pub audiences : optional aud (filter (is_field user_info_fields) members) ≡ claims.audiences
    pub standard : faultless_claims gender_read reading (filter is_standard members) ≡ Ok claims.standard_claims
    pub additional : additional_read (filter (is_additional user_info_fields) members) ≡ Ok claims.additional_claims

  abbrev pub AcceptedHaveOneHome : Type 0
  AcceptedHaveOneHome =
      (reading : Reading) (members : List SeenMember) (claims : SeenUserInfoClaims AC GC)
      → user_info_claims_of additional_read gender_read reading members ≡ Ok claims
      → HaveOneHome reading members claims
