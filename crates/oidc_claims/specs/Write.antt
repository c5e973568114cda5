-- The members that the standard claims are written as (OpenID Connect Core 1.0 sections 5.1, 5.1.1
-- and 5.2).
use Rattle.std.specs.Prelude.{◌≡◌, ◌≢◌, ℕ, ℤ, List, [], ◌∷◌, ◌++◌, map, Option, None, Some, option_map, Result, Ok, codes}
use Rattle.std.specs.List.{flat_map}
use Rattle.std.specs.FinMap as finite
use Rattle.serde_json.specs.Data.{Data, boolean, string, object, Members, put}
use Rattle.oidc_types.specs.{Variants}
use Rattle.oidc_members.specs.Seen.{SeenMember, OutSeen}
use Rattle.oidc_members.specs.Objects.{members_of}
use Rattle.oidc_members.specs.Write.{data_of, object_text}
use Rattle.oidc_members.specs.declared.reading.Reading.{Reading}
use Rattle.oidc_members.specs.declared.refusal.Refusal.{Refusal}
use Rattle.oidc_readers.specs.Moments.{moment_at, seconds_data}
use Rattle.oidc_readers.specs.Writing.{text_member}
use Rattle.oidc_claims.specs.declared.claim.Claim.{Claim}
use Rattle.oidc_claims.specs.declared.claim.Claim.TheVariants.{Subject, Name, GivenName, FamilyName, MiddleName, Nickname, PreferredUsername, Profile, Picture, Website, Email, EmailVerified, Gender, Birthday, Birthdate, Zoneinfo, Locale, PhoneNumber, PhoneNumberVerified, Address, UpdatedAt}
use Rattle.oidc_claims.specs.declared.claims.address.AddressClaim.{AddressClaim}
use Rattle.oidc_claims.specs.declared.claims.address_reader.AddressPart.{AddressPart}
use Rattle.oidc_claims.specs.declared.claims.address_reader.AddressPart.TheVariants as part
use Rattle.oidc_claims.specs.Seen.{SeenClaims}
use Rattle.oidc_claims.specs.Address.{part_name}
use Rattle.oidc_claims.specs.Standard.{claims_of}
use Rattle.oidc_claims.specs.Table.{name_of, all_claims}

-- ---- values

abbrev pub part_members : AddressClaim → AddressPart → List OutSeen
part_members a part.Formatted = text_member (part_name part.Formatted) a.formatted
part_members a part.StreetAddress = text_member (part_name part.StreetAddress) a.street_address
part_members a part.Locality = text_member (part_name part.Locality) a.locality
part_members a part.Region = text_member (part_name part.Region) a.region
part_members a part.PostalCode = text_member (part_name part.PostalCode) a.postal_code
part_members a part.Country = text_member (part_name part.Country) a.country

-- in the byte order of their names
abbrev pub parts_in_order : List AddressPart
parts_in_order =
    part.Country ∷ part.Formatted ∷ part.Locality ∷ part.PostalCode ∷ part.Region
    ∷ part.StreetAddress ∷ []

-- the parts of an address that are there
abbrev pub address_members : AddressClaim → List OutSeen
address_members a = flat_map (part_members a) parts_in_order

abbrev pub address_data : AddressClaim → Data
address_data a = object (data_of (address_members a))

-- ---- the members of one claim

-- none where the claim is absent
abbrev pub plain_member : Claim → Option Data → List OutSeen
plain_member c None = []
plain_member c (Some value) = record { name = name_of c; value = value } ∷ []

-- The tag stands behind a `#`.
abbrev pub with_tag : List ℕ → Option (List ℕ) → List ℕ
with_tag base None = base
with_tag base (Some tag) = base ++ codes "#" ++ tag

abbrev pub variant_member : Claim → Option (List ℕ) × List ℕ → OutSeen
variant_member c entry = record { name = with_tag (name_of c) entry.0; value = string entry.1 }

-- the value without a tag first, and then by the bytes of the tags
abbrev pub variant_members : Claim → Option (Variants (List ℕ)) → List OutSeen
variant_members c None = []
variant_members c (Some variants) = map (variant_member c) (finite.entries variants)

module _ {GC : Type 0} (gender_data : GC → Data) where
  abbrev pub claim_members : SeenClaims GC → Claim → List OutSeen
  claim_members s Subject = plain_member Subject (Some (string s.subject))
  claim_members s Name = variant_members Name s.name
  claim_members s GivenName = variant_members GivenName s.given_name
  claim_members s FamilyName = variant_members FamilyName s.family_name
  claim_members s MiddleName = variant_members MiddleName s.middle_name
  claim_members s Nickname = variant_members Nickname s.nickname
  claim_members s PreferredUsername =
      plain_member PreferredUsername (option_map string s.preferred_username)
  claim_members s Profile = variant_members Profile s.profile
  claim_members s Picture = variant_members Picture s.picture
  claim_members s Website = variant_members Website s.website
  claim_members s Email = plain_member Email (option_map string s.email)
  claim_members s EmailVerified = plain_member EmailVerified (option_map boolean s.email_verified)
  claim_members s Gender = plain_member Gender (option_map gender_data s.gender)
  claim_members s Birthday = plain_member Birthday (option_map string s.birthday)
  claim_members s Birthdate = plain_member Birthdate (option_map string s.birthdate)
  claim_members s Zoneinfo = plain_member Zoneinfo (option_map string s.zoneinfo)
  claim_members s Locale = plain_member Locale (option_map string s.locale)
  claim_members s PhoneNumber = plain_member PhoneNumber (option_map string s.phone_number)
  claim_members s PhoneNumberVerified =
      plain_member PhoneNumberVerified (option_map boolean s.phone_number_verified)
  claim_members s Address = plain_member Address (option_map address_data s.address)
  claim_members s UpdatedAt = plain_member UpdatedAt (option_map seconds_data s.updated_at)

  -- all of them, in the order of the table
  abbrev pub written : SeenClaims GC → List OutSeen
  written s = flat_map (claim_members s) all_claims

-- ---- which claims are read back as they were written

-- a tag that isn't empty, or none
abbrev pub IsTag : Option (List ℕ) → Type 0
IsTag tag = tag ≢ Some []

abbrev pub AreTagged : List (Option (List ℕ) × List ℕ) → Type 0
AreTagged [] = Unit {0}
AreTagged (e ∷ es) = IsTag e.0 × AreTagged es

-- A claim in several languages has a value, and no tag is empty.
abbrev pub HasVariants : Option (Variants (List ℕ)) → Type 0
HasVariants None = Unit {0}
HasVariants (Some variants) = (finite.entries variants ≢ []) × AreTagged (finite.entries variants)

-- a moment that is at a whole second
abbrev pub IsWholeSecond : Option ℤ → Type 0
IsWholeSecond None = Unit {0}
IsWholeSecond (Some nanosecond) = (second : ℤ) × (moment_at second ≡ Some nanosecond)

pub record IsInRange {GC : Type 0} (claims : SeenClaims GC) : Type 0 where
  pub name : HasVariants claims.name
  pub given_name : HasVariants claims.given_name
  pub family_name : HasVariants claims.family_name
  pub middle_name : HasVariants claims.middle_name
  pub nickname : HasVariants claims.nickname
  pub profile : HasVariants claims.profile
  pub picture : HasVariants claims.picture
  pub website : HasVariants claims.website
  pub updated_at : IsWholeSecond claims.updated_at

-- The object's text of those members is read as these claims, under every reading.
abbrev pub GivesClaims : {GC : Type 0} → (SeenMember → Result GC Refusal)
    → List OutSeen → SeenClaims GC → Type 0
GivesClaims gender_read members claims =
    (reading : Reading)
    → option_map (claims_of gender_read reading) (members_of (object_text members)) ≡ Some (Ok claims)

-- ---- for private clauses

-- A part is put among the members of an object.
abbrev pub put_part : List ℕ → Option (List ℕ) → Members → Members
put_part name None parts = parts
put_part name (Some text) parts = put name (string text) parts
