-- The standard claims of a list of members (OpenID Connect Core 1.0 section 5.1).
use Rattle.std.specs.Prelude.{ℕ, List, length, Option, None, Some, Result, Ok, Err, codes}
use Rattle.oidc_members.specs.Seen.{SeenMember}
use Rattle.oidc_members.specs.declared.reading.Reading.{Reading}
use Rattle.oidc_members.specs.declared.refusal.Refusal.{Refusal}
use Rattle.oidc_readers.specs.Kinds.{Kind, text_kind, flag_kind, moment_kind}
use Rattle.oidc_readers.specs.Fields.{first_value}
use Rattle.oidc_readers.specs.Records.{missing}
use Rattle.oidc_claims.specs.declared.claim.Claim.TheVariants.{Subject, Name, GivenName, FamilyName, MiddleName, Nickname, PreferredUsername, Profile, Picture, Website, Email, EmailVerified, Gender, Birthday, Birthdate, Zoneinfo, Locale, PhoneNumber, PhoneNumberVerified, Address, UpdatedAt}
use Rattle.oidc_claims.specs.Seen.{SeenClaims}
use Rattle.oidc_claims.specs.Address.{address_kind}
use Rattle.oidc_claims.specs.Claims.{own, plain, variants, unless_empty, first_fault}

-- the subject, where `sub` is there
abbrev pub subject_of : List SeenMember → Option (List ℕ)
subject_of members = first_value text_kind (own Subject members)

-- why a list without `sub` is refused
abbrev pub missing_subject : Refusal
missing_subject = missing (codes "sub")

abbrev pub at_place : {A : Type 0} → ℕ → Result A Refusal → Result A (ℕ × Refusal)
at_place place (Ok x) = Ok x
at_place place (Err refusal) = Err (place, refusal)

module _ {GC : Type 0} (gender_read : Kind GC) (reading : Reading) where
  -- each claim is the value of its member, or the map of the values of its members
  unfoldable pub with_subject : List ℕ → List SeenMember → SeenClaims GC
  with_subject subject members = record {
    subject = subject;
    name = unless_empty (variants text_kind (own Name members));
    given_name = unless_empty (variants text_kind (own GivenName members));
    family_name = unless_empty (variants text_kind (own FamilyName members));
    middle_name = unless_empty (variants text_kind (own MiddleName members));
    nickname = unless_empty (variants text_kind (own Nickname members));
    preferred_username = plain text_kind (own PreferredUsername members);
    profile = unless_empty (variants text_kind (own Profile members));
    picture = unless_empty (variants text_kind (own Picture members));
    website = unless_empty (variants text_kind (own Website members));
    email = plain text_kind (own Email members);
    email_verified = plain (flag_kind reading) (own EmailVerified members);
    gender = plain gender_read (own Gender members);
    birthday = plain text_kind (own Birthday members);
    birthdate = plain text_kind (own Birthdate members);
    zoneinfo = plain text_kind (own Zoneinfo members);
    locale = plain text_kind (own Locale members);
    phone_number = plain text_kind (own PhoneNumber members);
    phone_number_verified = plain (flag_kind reading) (own PhoneNumberVerified members);
    address = plain address_kind (own Address members);
    updated_at = plain (moment_kind reading) (own UpdatedAt members);
  }

  -- the claims of members none of which is faulty; `sub` has to be there
  abbrev pub complete : Option (List ℕ) → List SeenMember → Result (SeenClaims GC) Refusal
  complete None members = Err missing_subject
  complete (Some subject) members = Ok (with_subject subject members)

  abbrev pub faultless_claims : List SeenMember → Result (SeenClaims GC) Refusal
  faultless_claims members = complete (subject_of members) members

  abbrev pub unless_refused : Option (ℕ × Refusal) → List SeenMember
      → Result (SeenClaims GC) (ℕ × Refusal)
  unless_refused (Some fault) members = Err fault
  unless_refused None members = at_place (length members) (faultless_claims members)

  -- the first faulty place with its refusal; then a missing `sub`, at the place behind the last
  -- member; else the claims
  abbrev pub claims_of : List SeenMember → Result (SeenClaims GC) (ℕ × Refusal)
  claims_of members = unless_refused (first_fault gender_read reading members) members
