-- Claims of user info that were written are read back.
use Rattle.std.proofs.Common.{◌≡◌, List, [], ◌++◌, map, true, false, None, Some, option_map, Result, Ok, refl, ap, ◌∙◌, filter, All}
use Rattle.std.specs.List.{list_all}
use Rattle.std.proofs.lemmas.List.Elements.{All-append}
use Rattle.serde_json.specs.Data.{Data}
use Rattle.oidc_members.specs.Seen.{SeenMember, OutSeen}
use Rattle.oidc_members.specs.Write.{any_float}
use Rattle.oidc_members.specs.declared.reading.Reading.{Reading}
use Rattle.oidc_members.specs.declared.refusal.Refusal.{Refusal}
use Rattle.oidc_readers.specs.Passes.{first_by}
use Rattle.oidc_readers.specs.Records.{◌>>=◌, optional}
use Rattle.oidc_readers.specs.WrittenBack.{MayStand, IsUtf8Member, as_read}
use Rattle.oidc_readers.proofs.Theorems.{written_split_back, free_append, standing_free}
use Rattle.oidc_claims.specs.Additional.{ReadsBack, StaysAdditional}
use Rattle.oidc_claims.specs.Claims.{fault_at}
use Rattle.oidc_claims.specs.Gender.{GenderReadsBack, GenderIsValue}
use Rattle.oidc_claims.specs.Home.{is_additional, user_info_fields}
use Rattle.oidc_claims.specs.Standard.{faultless_claims}
use Rattle.oidc_claims.specs.Write.{written}
use Rattle.oidc_claims.proofs.Theorems.{standard_name, standard_named, written_free, written_stands}
use Rattle.oidc_id_token_claims.specs.Homes.{is_field}
use Rattle.oidc_id_token_claims.specs.IdTokenClaims.{additional_among}
use Rattle.oidc_jwt.specs.Issuing.{ComesBack}
use Rattle.oidc_jwt.proofs.Theorems.{may_be_written}
use Rattle.oidc_id_token_claims.proofs.Theorems.{is_field_name, passes_apart, passes_both, no_fault, fields_kept, standard_kept, additional_kept, standard_clean, standard_there, behind, before, each_stands, outs_back}
use Rattle.oidc_user_info.specs.UserInfoClaims.{SeenUserInfoClaims, iss, aud, issuer_and_audience_rule, issuer_and_audience_members, user_info_rule, parts_in, user_info_claims_of, user_info_members}
use Rattle.oidc_user_info.specs.RoundTrip.{IsInfoInRange, GivesInfoClaims}
use Rattle.oidc_user_info.proofs.IssuerAndAudienceBack.{issuer_same, audiences_same, rule_outside, rule_narrowed, issuer_back, audiences_back, own_clean, fields_named, own_stand}

-- ---- floats

pub members_free : {AC GC : Type 0} (additional_out : AC → List OutSeen) (gender_data : GC → Data) → GenderIsValue gender_data → (c : SeenUserInfoClaims AC GC) → any_float (additional_out c.additional_claims) ≡ false
    → any_float (user_info_members additional_out gender_data c) ≡ false
members_free additional_out gender_data there c free =
    let first = issuer_and_audience_members c.issuer c.audiences in
    let second = written gender_data c.standard_claims in
    let third = additional_out c.additional_claims in
    free_append (first ++ second) third (free_append first second (standing_free first (own_stand c.issuer c.audiences)) (written_free gender_data there c.standard_claims)) free

-- ---- all claims

module _
    {AC GC : Type 0}
    (additional_read : List SeenMember → Result AC Refusal)
    (additional_out : AC → List OutSeen)
    (gender_read : SeenMember → Result GC Refusal)
    (gender_data : GC → Data)
    (additional_back : ReadsBack additional_read additional_out)
    (additional_stay : StaysAdditional additional_out)
    (gender_back : GenderReadsBack gender_read gender_data)
    (gender_there : GenderIsValue gender_data)
    (c : SeenUserInfoClaims AC GC)
    (range : IsInfoInRange additional_out c) where
  abbrev first_part : List OutSeen
  first_part = issuer_and_audience_members c.issuer c.audiences

  abbrev second_part : List OutSeen
  second_part = written gender_data c.standard_claims

  abbrev third_part : List OutSeen
  third_part = additional_out c.additional_claims

  abbrev all_out : List OutSeen
  all_out = user_info_members additional_out gender_data c

  abbrev all : List SeenMember
  all = map as_read all_out

  firsts : list_all (λ m. is_field_name user_info_fields m.name) first_part ≡ true
  firsts = fields_named c.issuer c.audiences

  seconds : list_all (λ m. standard_name m.name) second_part ≡ true
  seconds = standard_named gender_data c.standard_claims

  thirds : list_all (λ m. is_additional m.name) third_part ≡ true
  thirds = additional_stay c.additional_claims

  own_kept : filter (is_field user_info_fields) all ≡ map as_read first_part
  own_kept = fields_kept user_info_fields refl first_part second_part third_part firsts seconds thirds

  values_stand : All (λ (m : OutSeen). MayStand m.value) all_out
  values_stand =
      All-append (λ (m : OutSeen). MayStand m.value) (first_part ++ second_part) third_part
      (All-append (λ (m : OutSeen). MayStand m.value) first_part second_part (own_stand c.issuer c.audiences)
      (each_stands second_part (written_stands gender_data gender_there c.standard_claims range.standard_claims))) range.values

  issuer_there : optional iss all ≡ c.issuer
  issuer_there = issuer_same all ∙ ap (optional iss) own_kept ∙ issuer_back c.issuer c.audiences range.issuer

  audiences_there : optional aud all ≡ c.audiences
  audiences_there = audiences_same all ∙ ap (optional aud) own_kept ∙ audiences_back c.issuer c.audiences

  clean_own : first_by issuer_and_audience_rule [] all ≡ None
  clean_own =
      passes_apart issuer_and_audience_rule (is_field user_info_fields) rule_outside rule_narrowed all []
      (ap (first_by issuer_and_audience_rule []) own_kept ∙ own_clean c.issuer c.audiences range.issuer)

  additional_there : additional_read (additional_among user_info_fields all) ≡ Ok c.additional_claims
  additional_there =
      ap additional_read (additional_kept user_info_fields refl first_part second_part third_part firsts seconds thirds)
      ∙ additional_back c.additional_claims (map as_read third_part) (outs_back third_part)

  module _ (texts : All IsUtf8Member all_out) where
    standard_texts : All IsUtf8Member second_part
    standard_texts = behind IsUtf8Member first_part second_part (before IsUtf8Member (first_part ++ second_part) third_part texts)

    read_standard : (reading : Reading) → (first_by (fault_at gender_read reading) [] all ≡ None) × (faultless_claims gender_read reading all ≡ Ok c.standard_claims)
    read_standard reading =
        let kept = standard_kept user_info_fields refl first_part second_part third_part firsts seconds thirds in (
          standard_clean gender_read reading gender_data gender_back gender_there c.standard_claims range.standard_claims standard_texts all kept,
          standard_there gender_read reading gender_data gender_back gender_there c.standard_claims range.standard_claims standard_texts all kept,
        )

    pub read_again : (reading : Reading) → user_info_claims_of additional_read gender_read reading all ≡ Ok c
    unfolding user_info_claims_of parts_in
    read_again reading = rw (
      no_fault (user_info_rule gender_read reading) all (passes_both issuer_and_audience_rule (fault_at gender_read reading) all [] clean_own (read_standard reading).0),
      (read_standard reading).1,
      additional_there,
      issuer_there,
      audiences_there,
    ) refl

    pub gives_claims : GivesInfoClaims additional_read gender_read all_out c
    gives_claims reading =
        ap (option_map (user_info_claims_of additional_read gender_read reading)) (written_split_back all_out (may_be_written all_out values_stand texts))
        ∙ ap Some (read_again reading)

  pub comes_back : (reading : Reading) → ComesBack (user_info_claims_of additional_read gender_read reading) (user_info_members additional_out gender_data) c
  comes_back reading = record { values = values_stand; same = λ texts. read_again texts reading }
