-- The table of the standard claims (OpenID Connect Core 1.0 section 5.1), and how a member's name
-- is cut into a claim's name and a language tag (section 5.2).
use Rattle.std.specs.Prelude.{ℕ, ◌==◌, List, [], ◌∷◌, Bool, codes, filter, length, Option, Some, None}
use Rattle.std.specs.List.{find, before_first, after_first}
use Rattle.std.specs.Str.{bytes_eq}
use Rattle.oidc_claims.specs.declared.claim.Claim.{Claim}
use Rattle.oidc_claims.specs.declared.claim.Claim.TheVariants.{Subject, Name, GivenName, FamilyName, MiddleName, Nickname, PreferredUsername, Profile, Picture, Website, Email, EmailVerified, Gender, Birthday, Birthdate, Zoneinfo, Locale, PhoneNumber, PhoneNumberVerified, Address, UpdatedAt}
use Rattle.oidc_claims.specs.declared.claim.ClaimKind.{ClaimKind}
use Rattle.oidc_claims.specs.declared.claim.ClaimKind.TheVariants as kind

-- ---- the table

abbrev pub name_of : Claim → List ℕ
name_of Subject = codes "sub"
name_of Name = codes "name"
name_of GivenName = codes "given_name"
name_of FamilyName = codes "family_name"
name_of MiddleName = codes "middle_name"
name_of Nickname = codes "nickname"
name_of PreferredUsername = codes "preferred_username"
name_of Profile = codes "profile"
name_of Picture = codes "picture"
name_of Website = codes "website"
name_of Email = codes "email"
name_of EmailVerified = codes "email_verified"
name_of Gender = codes "gender"
name_of Birthday = codes "birthday"
name_of Birthdate = codes "birthdate"
name_of Zoneinfo = codes "zoneinfo"
name_of Locale = codes "locale"
name_of PhoneNumber = codes "phone_number"
name_of PhoneNumberVerified = codes "phone_number_verified"
name_of Address = codes "address"
name_of UpdatedAt = codes "updated_at"

-- `sub` alone must be there and be no null; eight claims may stand in several languages.
abbrev pub kind_of : Claim → ClaimKind
kind_of Subject = kind.RequiredText
kind_of Name = kind.LocalizedText
kind_of GivenName = kind.LocalizedText
kind_of FamilyName = kind.LocalizedText
kind_of MiddleName = kind.LocalizedText
kind_of Nickname = kind.LocalizedText
kind_of Profile = kind.LocalizedText
kind_of Picture = kind.LocalizedText
kind_of Website = kind.LocalizedText
kind_of EmailVerified = kind.Flag
kind_of PhoneNumberVerified = kind.Flag
kind_of UpdatedAt = kind.Moment
kind_of Address = kind.Address
kind_of Gender = kind.Gender
kind_of claim = kind.Text

-- in the order in which they are written
abbrev pub all_claims : List Claim
all_claims =
    Subject ∷ Name ∷ GivenName ∷ FamilyName ∷ MiddleName ∷ Nickname ∷ PreferredUsername
    ∷ Profile ∷ Picture ∷ Website ∷ Email ∷ EmailVerified ∷ Gender
    ∷ Birthday ∷ Birthdate ∷ Zoneinfo ∷ Locale
    ∷ PhoneNumber ∷ PhoneNumberVerified ∷ Address ∷ UpdatedAt ∷ []

-- the claim of that name
abbrev pub claim_of : List ℕ → Option Claim
claim_of base = find (λ claim. bytes_eq (name_of claim) base) all_claims

-- the claims whose names have so many bytes, in that order
abbrev pub claims_of_length : ℕ → List Claim
claims_of_length size = filter (λ claim. length (name_of claim) == size) all_claims

-- ---- names

-- `#`
abbrev is_hash : ℕ → Bool
is_hash byte = byte == 35

-- an empty tag is none
abbrev pub as_tag : List ℕ → Option (List ℕ)
as_tag [] = None
as_tag (byte ∷ bytes) = Some (byte ∷ bytes)

-- A name is cut at its first `#`.
abbrev pub base_of : List ℕ → List ℕ
base_of name = before_first is_hash name

abbrev pub tag_of : List ℕ → Option (List ℕ)
tag_of name = as_tag (after_first is_hash name)

-- the base and the tag of a name
abbrev pub key_of : List ℕ → List ℕ × Option (List ℕ)
key_of name = (base_of name, tag_of name)
