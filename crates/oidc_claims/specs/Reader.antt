-- What the readers of a list of members keep.
use Rattle.std.specs.Prelude.{ℕ, List}
use Rattle.std.specs.Option.{option_flatten}
use Rattle.oidc_members.specs.Seen.{SeenMember}
use Rattle.oidc_members.specs.declared.reading.Reading.{Reading}
use Rattle.oidc_readers.specs.Kinds.{Kind, text_kind, flag_kind, moment_kind, or_null}
use Rattle.oidc_readers.specs.Slots.{slot, slot_among}
use Rattle.oidc_claims.specs.declared.claim.Claim.{Claim}
use Rattle.oidc_claims.specs.declared.claim.Claim.TheVariants.{Subject, Name, GivenName, FamilyName, MiddleName, Nickname, PreferredUsername, Profile, Picture, Website, Email, EmailVerified, Gender, Birthday, Birthdate, Zoneinfo, Locale, PhoneNumber, PhoneNumberVerified, Address, UpdatedAt}
use Rattle.oidc_claims.specs.declared.claims.address_reader.AddressPart.TheVariants as part
use Rattle.oidc_claims.specs.declared.claims.address_reader.AddressReader.{AddressReader}
use Rattle.oidc_claims.specs.declared.claims.reader.ClaimsReader.{ClaimsReader}
use Rattle.oidc_claims.specs.Seen.{SeenClaims}
use Rattle.oidc_claims.specs.Address.{part_field, address_kind}
use Rattle.oidc_claims.specs.Claims.{own, unless_empty}
use Rattle.oidc_claims.specs.Slots.{languages_slot}

abbrev pub address_reader_of : List SeenMember → AddressReader
address_reader_of members = record {
  formatted = slot (part_field part.Formatted) members;
  street_address = slot (part_field part.StreetAddress) members;
  locality = slot (part_field part.Locality) members;
  region = slot (part_field part.Region) members;
  postal_code = slot (part_field part.PostalCode) members;
  country = slot (part_field part.Country) members;
}

module _ {GC : Type 0} (gender_read : Kind GC) (reading : Reading) where
  -- the slots of the claims, of the members of each
  abbrev pub claim_slots : (Claim → List SeenMember) → ClaimsReader GC
  claim_slots f = record {
    subject = slot_among text_kind (f Subject);
    name = languages_slot text_kind (f Name);
    given_name = languages_slot text_kind (f GivenName);
    family_name = languages_slot text_kind (f FamilyName);
    middle_name = languages_slot text_kind (f MiddleName);
    nickname = languages_slot text_kind (f Nickname);
    preferred_username = slot_among (or_null text_kind) (f PreferredUsername);
    profile = languages_slot text_kind (f Profile);
    picture = languages_slot text_kind (f Picture);
    website = languages_slot text_kind (f Website);
    email = slot_among (or_null text_kind) (f Email);
    email_verified = slot_among (or_null (flag_kind reading)) (f EmailVerified);
    gender = slot_among (or_null gender_read) (f Gender);
    birthday = slot_among (or_null text_kind) (f Birthday);
    birthdate = slot_among (or_null text_kind) (f Birthdate);
    zoneinfo = slot_among (or_null text_kind) (f Zoneinfo);
    locale = slot_among (or_null text_kind) (f Locale);
    phone_number = slot_among (or_null text_kind) (f PhoneNumber);
    phone_number_verified = slot_among (or_null (flag_kind reading)) (f PhoneNumberVerified);
    address = slot_among (or_null address_kind) (f Address);
    updated_at = slot_among (or_null (moment_kind reading)) (f UpdatedAt);
  }

  unfoldable pub reader_of : List SeenMember → ClaimsReader GC
  reader_of members = claim_slots (λ claim. own claim members)

module _ {GC : Type 0} where
  -- the claims that the slots give in the end
  unfoldable pub finished_claims : ClaimsReader GC → List ℕ → SeenClaims GC
  finished_claims reader subject = record {
    subject = subject;
    name = unless_empty reader.name.values;
    given_name = unless_empty reader.given_name.values;
    family_name = unless_empty reader.family_name.values;
    middle_name = unless_empty reader.middle_name.values;
    nickname = unless_empty reader.nickname.values;
    preferred_username = option_flatten reader.preferred_username.value;
    profile = unless_empty reader.profile.values;
    picture = unless_empty reader.picture.values;
    website = unless_empty reader.website.values;
    email = option_flatten reader.email.value;
    email_verified = option_flatten reader.email_verified.value;
    gender = option_flatten reader.gender.value;
    birthday = option_flatten reader.birthday.value;
    birthdate = option_flatten reader.birthdate.value;
    zoneinfo = option_flatten reader.zoneinfo.value;
    locale = option_flatten reader.locale.value;
    phone_number = option_flatten reader.phone_number.value;
    phone_number_verified = option_flatten reader.phone_number_verified.value;
    address = option_flatten reader.address.value;
    updated_at = option_flatten reader.updated_at.value;
  }
