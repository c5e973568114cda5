-- The claims of a user info answer, read and written (OpenID Connect Core 1.0 sections 5.1, 5.1.2 and 5.3.2).
use Rattle.std.specs.Prelude.{ℕ, List, [], ◌∷◌, ◌++◌, Option, option_map, Result, Ok, codes}
use Rattle.serde_json.specs.Data.{Data}
use Rattle.oidc_types.specs.{TextAndUrl}
use Rattle.oidc_members.specs.Seen.{SeenMember, OutSeen}
use Rattle.oidc_members.specs.declared.reading.Reading.{Reading}
use Rattle.oidc_members.specs.declared.refusal.Refusal.{Refusal}
use Rattle.oidc_readers.specs.Kinds.{url_kind, text_or_texts_kind, or_null}
use Rattle.oidc_readers.specs.Fields.{Field, field, judged}
use Rattle.oidc_readers.specs.Records.{◌>>=◌, Rule, by_table, either_rule, faultless, optional}
use Rattle.oidc_readers.specs.Writing.{text_member, texts_member}
use Rattle.oidc_claims.specs.Seen.{SeenClaims}
use Rattle.oidc_claims.specs.Claims.{fault_at}
use Rattle.oidc_claims.specs.Standard.{faultless_claims}
use Rattle.oidc_claims.specs.Home.{user_info_fields}
use Rattle.oidc_claims.specs.Write.{written}
use Rattle.oidc_id_token_claims.specs.IdTokenClaims.{additional_among}
use Rattle.oidc_tokens.specs.UserInfoVerification.{Parties, parties}

pub record SeenUserInfoClaims (AC GC : Type 0) : Type 0 where
  pub issuer : Option TextAndUrl
  pub audiences : Option (List (List ℕ))
  pub standard_claims : SeenClaims GC
  pub additional_claims : AC

-- whom the claims name
abbrev pub parties_of : {AC GC : Type 0} → SeenUserInfoClaims AC GC → Parties
parties_of claims = parties claims.issuer claims.audiences claims.standard_claims.subject

-- ---- the table of the fields that are no claims

abbrev pub iss : Field (Option TextAndUrl)
iss = field (codes "iss") (or_null url_kind)

abbrev pub aud : Field (Option (List (List ℕ)))
aud = field (codes "aud") (or_null text_or_texts_kind)

abbrev pub issuer_and_audience_rule : Rule
issuer_and_audience_rule = by_table (judged iss ∷ judged aud ∷ [])

-- why a member is faulty, after all those before it: by its own field's row, or as a standard claim
abbrev pub user_info_rule : {GC : Type 0} → (SeenMember → Result GC Refusal) → Reading → Rule
user_info_rule gender_read reading = either_rule issuer_and_audience_rule (fault_at gender_read reading)

-- ---- as they are read

module _ {AC GC : Type 0} (additional_read : List SeenMember → Result AC Refusal)
    (gender_read : SeenMember → Result GC Refusal) (reading : Reading) where
  -- What members say, none of which is faulty. A missing `sub` refuses them, and then the additional
  -- claims may.
  unfoldable pub parts_in : List SeenMember → Result (SeenUserInfoClaims AC GC) Refusal
  parts_in members = do
    standard ← faultless_claims gender_read reading members
    additional ← additional_read (additional_among user_info_fields members)
    Ok (record {
      issuer = optional iss members;
      audiences = optional aud members;
      standard_claims = standard;
      additional_claims = additional;
    })

  -- The first faulty member refuses the list.
  unfoldable pub user_info_claims_of : List SeenMember → Result (SeenUserInfoClaims AC GC) Refusal
  user_info_claims_of members = do
    u ← faultless (user_info_rule gender_read reading) members
    parts_in members

-- ---- as members

-- absent fields left out; `aud` is always an array
abbrev pub issuer_and_audience_members : Option TextAndUrl → Option (List (List ℕ)) → List OutSeen
issuer_and_audience_members issuer audiences =
    text_member iss.name (option_map (λ i. i.text) issuer) ++ texts_member aud.name audiences

-- the fields, the standard claims, then the additional claims
abbrev pub user_info_members : {AC GC : Type 0} → (AC → List OutSeen) → (GC → Data)
    → SeenUserInfoClaims AC GC → List OutSeen
user_info_members additional_out gender_data c =
    issuer_and_audience_members c.issuer c.audiences
    ++ written gender_data c.standard_claims
    ++ additional_out c.additional_claims
