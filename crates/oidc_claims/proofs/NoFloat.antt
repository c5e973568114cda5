-- No value that claims are written as holds a float.
use Rattle.std.proofs.Common.{◌≡◌, ℕ, ℤ, pos, negsuc, List, [], ◌∷◌, ◌++◌, map, Option, None, Some, option_map, Bool, true, false, ◌||◌, refl}
use Rattle.std.specs.FinMap as finite
use Rattle.std.specs.List.{flat_map}
use Rattle.std.proofs.lemmas.Bool.{or_from}
use Rattle.serde_json.specs.Data.{Data, boolean, number, string}
use Rattle.serde_json.specs.Find.{of_integer}
use Rattle.serde_json.specs.Written.{has_float}
use Rattle.oidc_types.specs.{Variants}
use Rattle.oidc_members.specs.Seen.{OutSeen}
use Rattle.oidc_members.specs.Write.{data_of, any_float}
use Rattle.oidc_readers.proofs.Theorems.{whole_value, whole_members, free_append}
use Rattle.oidc_claims.specs.declared.claim.Claim.{Claim}
use Rattle.oidc_claims.specs.declared.claim.Claim.TheVariants.{Subject, Name, GivenName, FamilyName, MiddleName, Nickname, PreferredUsername, Profile, Picture, Website, Email, EmailVerified, Gender, Birthday, Birthdate, Zoneinfo, Locale, PhoneNumber, PhoneNumberVerified, Address, UpdatedAt}
use Rattle.oidc_readers.specs.Moments.{seconds_of, seconds_data}
use Rattle.oidc_claims.specs.Gender.{GenderIsValue}
use Rattle.oidc_claims.specs.Seen.{SeenClaims}
use Rattle.oidc_claims.specs.Table.{all_claims}
use Rattle.oidc_claims.specs.Write.{address_members, address_data, plain_member, variant_member, variant_members, claim_members, written}
use Rattle.oidc_claims.proofs.MayStand.{address_whole}

-- ---- lists

all_free : {K : Type 0} (parts : K → List OutSeen) (ks : List K) → ((k : K) → any_float (parts k) ≡ false) → any_float (flat_map parts ks) ≡ false
all_free parts [] h = refl
all_free parts (k ∷ ks) h = free_append (parts k) (flat_map parts ks) (h k) (all_free parts ks h)

-- ---- claims

one_free : {V : Type 0} (c : Claim) (value_of : V → Data) (o : Option V) → ((v : V) → has_float (value_of v) ≡ false) → any_float (plain_member c (option_map value_of o)) ≡ false
one_free c value_of None h = refl
one_free c value_of (Some v) h = or_from (has_float (value_of v)) false (h v) refl

entries_free : (c : Claim) (es : List (Option (List ℕ) × List ℕ)) → any_float (map (variant_member c) es) ≡ false
entries_free c [] = refl
entries_free c (e ∷ es) = entries_free c es

variants_free : (c : Claim) (o : Option (Variants (List ℕ))) → any_float (variant_members c o) ≡ false
variants_free c None = refl
variants_free c (Some variants) = entries_free c (finite.entries variants)

integer_free : (z : ℤ) → has_float (number (of_integer z)) ≡ false
integer_free (pos n) = refl
integer_free (negsuc n) = refl

module _ {GC : Type 0} (gender_data : GC → Data) (gender_there : GenderIsValue gender_data) where
  claim_free : (s : SeenClaims GC) (c : Claim) → any_float (claim_members gender_data s c) ≡ false
  claim_free s Subject = refl
  claim_free s Name = variants_free Name s.name
  claim_free s GivenName = variants_free GivenName s.given_name
  claim_free s FamilyName = variants_free FamilyName s.family_name
  claim_free s MiddleName = variants_free MiddleName s.middle_name
  claim_free s Nickname = variants_free Nickname s.nickname
  claim_free s PreferredUsername = one_free PreferredUsername string s.preferred_username (λ t. refl)
  claim_free s Profile = variants_free Profile s.profile
  claim_free s Picture = variants_free Picture s.picture
  claim_free s Website = variants_free Website s.website
  claim_free s Email = one_free Email string s.email (λ t. refl)
  claim_free s EmailVerified = one_free EmailVerified boolean s.email_verified (λ b. refl)
  claim_free s Gender = one_free Gender gender_data s.gender (λ g. whole_value (gender_data g) (gender_there g).1.0)
  claim_free s Birthday = one_free Birthday string s.birthday (λ t. refl)
  claim_free s Birthdate = one_free Birthdate string s.birthdate (λ t. refl)
  claim_free s Zoneinfo = one_free Zoneinfo string s.zoneinfo (λ t. refl)
  claim_free s Locale = one_free Locale string s.locale (λ t. refl)
  claim_free s PhoneNumber = one_free PhoneNumber string s.phone_number (λ t. refl)
  claim_free s PhoneNumberVerified = one_free PhoneNumberVerified boolean s.phone_number_verified (λ b. refl)
  claim_free s Address = one_free Address address_data s.address (λ a. whole_members (data_of (address_members a)) (address_whole a))
  claim_free s UpdatedAt = one_free UpdatedAt seconds_data s.updated_at (λ n. integer_free (seconds_of n))

  pub written_free : (s : SeenClaims GC) → any_float (written gender_data s) ≡ false
  written_free s = all_free (claim_members gender_data s) all_claims (claim_free s)
