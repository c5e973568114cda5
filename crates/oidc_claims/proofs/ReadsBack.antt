-- Claims that were written are read back.
use Rattle.std.proofs.Common.{◌≡◌, ◌≢◌, ℕ, ℤ, pos, negsuc, List, [], map, Option, None, Some, option_map, Ok, false, cond, refl, ap, subst, ◌∙◌, append-nil, is_some, length}
use Rattle.std.specs.List.{flat_map}
use Rattle.std.specs.Option.{ok_or, option_flatten}
use Rattle.std.specs.Result.{result_ok, result_err}
use Rattle.serde_json.specs.Data.{Data, null, boolean, number, string, array, object}
use Rattle.serde_json.specs.Find.{as_null, as_integer, of_integer}
use Rattle.oidc_members.specs.Seen.{SeenMember, OutSeen}
use Rattle.oidc_members.specs.declared.reading.Reading.{Reading}
use Rattle.oidc_members.specs.declared.refusal.ParseKind.TheVariants.{Moment}
use Rattle.oidc_readers.specs.Moments.{moment_at, seconds_of, seconds_data}
use Rattle.oidc_readers.specs.Kinds.{Kind, of_member, text_kind, flag_kind, moment_kind, seconds_read, or_null, there as as_there}
use Rattle.oidc_readers.specs.Fields.{first_value}
use Rattle.oidc_claims.specs.declared.claim.Claim.{Claim}
use Rattle.oidc_claims.specs.declared.claim.Claim.TheVariants.{Subject, Name, GivenName, FamilyName, MiddleName, Nickname, PreferredUsername, Profile, Picture, Website, Email, EmailVerified, Gender, Birthday, Birthdate, Zoneinfo, Locale, PhoneNumber, PhoneNumberVerified, Address, UpdatedAt}
use Rattle.oidc_claims.specs.declared.claims.address.AddressClaim.{AddressClaim}
use Rattle.oidc_claims.specs.Seen.{SeenClaims}
use Rattle.oidc_claims.specs.Gender.{GenderReadsBack, GenderIsValue}
use Rattle.oidc_claims.specs.Table.{name_of, claim_of, kind_of, all_claims, base_of}
use Rattle.oidc_claims.specs.Address.{address_kind}
use Rattle.oidc_claims.specs.Claims.{own, held, plain, variants, unless_empty, fault_of_kind, fault_by, fault_at, first_fault}
use Rattle.oidc_claims.specs.Standard.{claims_of, with_subject, at_place, complete, unless_refused}
use Rattle.oidc_claims.specs.Write.{written, claim_members, plain_member, address_data}
use Rattle.oidc_claims.specs.Write.{IsInRange, IsWholeSecond}
use Rattle.oidc_claims.proofs.Standing.{AddressStands, read_with}
use Rattle.oidc_claims.proofs.Apart.{JudgesOwn, apart_from, own_among, no_fault}
use Rattle.oidc_claims.proofs.Parts.{map_flat, address_reads_back}
use Rattle.oidc_claims.proofs.Seconds.{whole_second}
use Rattle.oidc_claims.proofs.LocalizedNames.{localized}
use Rattle.oidc_claims.proofs.VariantsBack.{key, same, judge, keyed, IsClaimPart, variants_are_part, variants_back}

-- ---- values

not_null : (d : Data) → d ≢ null → is_some (as_null d) ≡ false
not_null null h = absurd (h refl)
not_null (boolean b) h = refl
not_null (number n) h = refl
not_null (string s) h = refl
not_null (array ds) h = refl
not_null (object ms) h = refl

integer_back : (z : ℤ) → as_integer (of_integer z) ≡ Some z
integer_back (pos n) = refl
integer_back (negsuc n) = refl

-- a value that is there and of its kind has no misfit, and is held
fitting : {V : Type 0} (read : Kind V) (m : SeenMember) (v : V) → is_some (as_null m.value) ≡ false → read m ≡ Ok v → result_err (or_null read m) ≡ None
fitting read m v there is = (λ i. result_err (cond (there i) (Ok None) (as_there (is i))))

held_back : {V : Type 0} (read : Kind V) (m : SeenMember) (v : V) → is_some (as_null m.value) ≡ false → read m ≡ Ok v → held read m ≡ Some v
held_back read m v there is = (λ i. option_flatten (result_ok (cond (there i) (Ok None) (as_there (is i)))))

-- ---- the whole list

module _
    {GC : Type 0}
    (gender_read : Kind GC)
    (reading : Reading)
    (gender_data : GC → Data)
    (gender_back : GenderReadsBack gender_read gender_data)
    (gender_there : GenderIsValue gender_data)
    (text_of : OutSeen → List ℕ) where
  abbrev seen : List OutSeen → List SeenMember
  seen = map (read_with text_of)

  abbrev one : Claim → Data → SeenMember
  one c value = read_with text_of (record { name = name_of c; value = value })

  judges : JudgesOwn key same (judge gender_read reading) (fault_at gender_read reading)
  judges c before m is = ap (λ o. fault_by gender_read reading o before m) is ∙ ap (λ l. fault_of_kind gender_read reading (kind_of c) l m) (keyed c before)

  -- ---- claims that stand once

  abbrev IsThere : Claim → Data → Type 0
  IsThere c value = (claim_of (base_of (name_of c)) ≡ Some c) × (judge gender_read reading c [] (one c value) ≡ None)

  one_is_part : {V : Type 0} (c : Claim) (data_of : V → Data) (o : Option V) → claim_of (base_of (name_of c)) ≡ Some c
      → ((v : V) → o ≡ Some v → judge gender_read reading c [] (one c (data_of v)) ≡ None) → IsClaimPart gender_read reading c [] (seen (plain_member c (option_map data_of o)))
  one_is_part c data_of None is fair = tt
  one_is_part c data_of (Some v) is fair = (is, fair v refl, tt)

  one_back : {V : Type 0} (c : Claim) (data_of : V → Data) (read : Kind V) (o : Option V)
      → ((v : V) → o ≡ Some v → held read (one c (data_of v)) ≡ Some v) → plain read (seen (plain_member c (option_map data_of o))) ≡ o
  one_back c data_of read None h = refl
  one_back c data_of read (Some v) h = h v refl

  gender_fits : (g : GC) → gender_read (one Gender (gender_data g)) ≡ Ok g
  gender_fits g = gender_back g (one Gender (gender_data g)) refl

  moment_fits : (n : ℤ) → IsWholeSecond (Some n) → moment_kind reading (one UpdatedAt (seconds_data n)) ≡ Ok n
  moment_fits n whole = ap (seconds_read (one UpdatedAt (seconds_data n))) (integer_back (seconds_of n)) ∙ moment_by (moment_at (seconds_of n)) (whole_second n whole.0 whole.1)
    where
      moment_by : (o : Option ℤ) → o ≡ Some n → ok_or o (of_member Moment (one UpdatedAt (seconds_data n))) ≡ Ok n
      moment_by o is = ap (λ o. ok_or o (of_member Moment (one UpdatedAt (seconds_data n)))) is

  module _ (s : SeenClaims GC) (r : IsInRange s) (stands : AddressStands text_of s.address) where
    abbrev parts : Claim → List SeenMember
    parts c = seen (claim_members gender_data s c)

    abbrev members : List SeenMember
    members = flat_map parts all_claims

    address_fits : (a : AddressClaim) → s.address ≡ Some a → address_kind (one Address (address_data a)) ≡ Ok a
    address_fits a is = address_reads_back text_of a (subst (AddressStands text_of) is stands)

    whole : (n : ℤ) → s.updated_at ≡ Some n → IsWholeSecond (Some n)
    whole n is = subst IsWholeSecond is r.updated_at

    are_parts : (c : Claim) → IsClaimPart gender_read reading c [] (parts c)
    are_parts Subject = (refl, refl, tt)
    are_parts Name = variants_are_part gender_read reading text_of Name (localized Name refl refl refl) s.name r.name
    are_parts GivenName = variants_are_part gender_read reading text_of GivenName (localized GivenName refl refl refl) s.given_name r.given_name
    are_parts FamilyName = variants_are_part gender_read reading text_of FamilyName (localized FamilyName refl refl refl) s.family_name r.family_name
    are_parts MiddleName = variants_are_part gender_read reading text_of MiddleName (localized MiddleName refl refl refl) s.middle_name r.middle_name
    are_parts Nickname = variants_are_part gender_read reading text_of Nickname (localized Nickname refl refl refl) s.nickname r.nickname
    are_parts PreferredUsername = one_is_part PreferredUsername string s.preferred_username refl (λ t is. refl)
    are_parts Profile = variants_are_part gender_read reading text_of Profile (localized Profile refl refl refl) s.profile r.profile
    are_parts Picture = variants_are_part gender_read reading text_of Picture (localized Picture refl refl refl) s.picture r.picture
    are_parts Website = variants_are_part gender_read reading text_of Website (localized Website refl refl refl) s.website r.website
    are_parts Email = one_is_part Email string s.email refl (λ t is. refl)
    are_parts EmailVerified = one_is_part EmailVerified boolean s.email_verified refl (λ t is. refl)
    are_parts Gender = one_is_part Gender gender_data s.gender refl (λ g is. fitting gender_read (one Gender (gender_data g)) g (not_null (gender_data g) (gender_there g).0) (gender_fits g))
    are_parts Birthday = one_is_part Birthday string s.birthday refl (λ t is. refl)
    are_parts Birthdate = one_is_part Birthdate string s.birthdate refl (λ t is. refl)
    are_parts Zoneinfo = one_is_part Zoneinfo string s.zoneinfo refl (λ t is. refl)
    are_parts Locale = one_is_part Locale string s.locale refl (λ t is. refl)
    are_parts PhoneNumber = one_is_part PhoneNumber string s.phone_number refl (λ t is. refl)
    are_parts PhoneNumberVerified = one_is_part PhoneNumberVerified boolean s.phone_number_verified refl (λ t is. refl)
    are_parts Address = one_is_part Address address_data s.address refl (λ a is. fitting address_kind (one Address (address_data a)) a refl (address_fits a is))
    are_parts UpdatedAt = one_is_part UpdatedAt seconds_data s.updated_at refl (λ n is. fitting (moment_kind reading) (one UpdatedAt (seconds_data n)) n refl (moment_fits n (whole n is)))

    own_is : (c : Claim) → own c members ≡ parts c
    own_is Subject = keyed Subject members ∙ own_among key same (judge gender_read reading) (fault_at gender_read reading) parts are_parts Subject all_claims ∙ append-nil (parts Subject)
    own_is Name = keyed Name members ∙ own_among key same (judge gender_read reading) (fault_at gender_read reading) parts are_parts Name all_claims ∙ append-nil (parts Name)
    own_is GivenName = keyed GivenName members ∙ own_among key same (judge gender_read reading) (fault_at gender_read reading) parts are_parts GivenName all_claims ∙ append-nil (parts GivenName)
    own_is FamilyName = keyed FamilyName members ∙ own_among key same (judge gender_read reading) (fault_at gender_read reading) parts are_parts FamilyName all_claims ∙ append-nil (parts FamilyName)
    own_is MiddleName = keyed MiddleName members ∙ own_among key same (judge gender_read reading) (fault_at gender_read reading) parts are_parts MiddleName all_claims ∙ append-nil (parts MiddleName)
    own_is Nickname = keyed Nickname members ∙ own_among key same (judge gender_read reading) (fault_at gender_read reading) parts are_parts Nickname all_claims ∙ append-nil (parts Nickname)
    own_is PreferredUsername = keyed PreferredUsername members ∙ own_among key same (judge gender_read reading) (fault_at gender_read reading) parts are_parts PreferredUsername all_claims ∙ append-nil (parts PreferredUsername)
    own_is Profile = keyed Profile members ∙ own_among key same (judge gender_read reading) (fault_at gender_read reading) parts are_parts Profile all_claims ∙ append-nil (parts Profile)
    own_is Picture = keyed Picture members ∙ own_among key same (judge gender_read reading) (fault_at gender_read reading) parts are_parts Picture all_claims ∙ append-nil (parts Picture)
    own_is Website = keyed Website members ∙ own_among key same (judge gender_read reading) (fault_at gender_read reading) parts are_parts Website all_claims ∙ append-nil (parts Website)
    own_is Email = keyed Email members ∙ own_among key same (judge gender_read reading) (fault_at gender_read reading) parts are_parts Email all_claims ∙ append-nil (parts Email)
    own_is EmailVerified = keyed EmailVerified members ∙ own_among key same (judge gender_read reading) (fault_at gender_read reading) parts are_parts EmailVerified all_claims ∙ append-nil (parts EmailVerified)
    own_is Gender = keyed Gender members ∙ own_among key same (judge gender_read reading) (fault_at gender_read reading) parts are_parts Gender all_claims ∙ append-nil (parts Gender)
    own_is Birthday = keyed Birthday members ∙ own_among key same (judge gender_read reading) (fault_at gender_read reading) parts are_parts Birthday all_claims ∙ append-nil (parts Birthday)
    own_is Birthdate = keyed Birthdate members ∙ own_among key same (judge gender_read reading) (fault_at gender_read reading) parts are_parts Birthdate all_claims ∙ append-nil (parts Birthdate)
    own_is Zoneinfo = keyed Zoneinfo members ∙ own_among key same (judge gender_read reading) (fault_at gender_read reading) parts are_parts Zoneinfo all_claims ∙ append-nil (parts Zoneinfo)
    own_is Locale = keyed Locale members ∙ own_among key same (judge gender_read reading) (fault_at gender_read reading) parts are_parts Locale all_claims ∙ append-nil (parts Locale)
    own_is PhoneNumber = keyed PhoneNumber members ∙ own_among key same (judge gender_read reading) (fault_at gender_read reading) parts are_parts PhoneNumber all_claims ∙ append-nil (parts PhoneNumber)
    own_is PhoneNumberVerified = keyed PhoneNumberVerified members ∙ own_among key same (judge gender_read reading) (fault_at gender_read reading) parts are_parts PhoneNumberVerified all_claims ∙ append-nil (parts PhoneNumberVerified)
    own_is Address = keyed Address members ∙ own_among key same (judge gender_read reading) (fault_at gender_read reading) parts are_parts Address all_claims ∙ append-nil (parts Address)
    own_is UpdatedAt = keyed UpdatedAt members ∙ own_among key same (judge gender_read reading) (fault_at gender_read reading) parts are_parts UpdatedAt all_claims ∙ append-nil (parts UpdatedAt)

    claims_back : with_subject gender_read reading s.subject members ≡ s
    unfolding with_subject
    claims_back = λ i. record {
      subject = s.subject;
      name = (ap (λ ms. unless_empty (variants text_kind ms)) (own_is Name) ∙ variants_back gender_read reading text_of Name (localized Name refl refl refl) s.name r.name) i;
      given_name = (ap (λ ms. unless_empty (variants text_kind ms)) (own_is GivenName) ∙ variants_back gender_read reading text_of GivenName (localized GivenName refl refl refl) s.given_name r.given_name) i;
      family_name = (ap (λ ms. unless_empty (variants text_kind ms)) (own_is FamilyName) ∙ variants_back gender_read reading text_of FamilyName (localized FamilyName refl refl refl) s.family_name r.family_name) i;
      middle_name = (ap (λ ms. unless_empty (variants text_kind ms)) (own_is MiddleName) ∙ variants_back gender_read reading text_of MiddleName (localized MiddleName refl refl refl) s.middle_name r.middle_name) i;
      nickname = (ap (λ ms. unless_empty (variants text_kind ms)) (own_is Nickname) ∙ variants_back gender_read reading text_of Nickname (localized Nickname refl refl refl) s.nickname r.nickname) i;
      preferred_username = (ap (plain text_kind) (own_is PreferredUsername) ∙ one_back PreferredUsername string text_kind s.preferred_username (λ t is. refl)) i;
      profile = (ap (λ ms. unless_empty (variants text_kind ms)) (own_is Profile) ∙ variants_back gender_read reading text_of Profile (localized Profile refl refl refl) s.profile r.profile) i;
      picture = (ap (λ ms. unless_empty (variants text_kind ms)) (own_is Picture) ∙ variants_back gender_read reading text_of Picture (localized Picture refl refl refl) s.picture r.picture) i;
      website = (ap (λ ms. unless_empty (variants text_kind ms)) (own_is Website) ∙ variants_back gender_read reading text_of Website (localized Website refl refl refl) s.website r.website) i;
      email = (ap (plain text_kind) (own_is Email) ∙ one_back Email string text_kind s.email (λ t is. refl)) i;
      email_verified = (ap (plain (flag_kind reading)) (own_is EmailVerified) ∙ one_back EmailVerified boolean (flag_kind reading) s.email_verified (λ b is. refl)) i;
      gender = (ap (plain gender_read) (own_is Gender) ∙ one_back Gender gender_data gender_read s.gender (λ g is. held_back gender_read (one Gender (gender_data g)) g (not_null (gender_data g) (gender_there g).0) (gender_fits g))) i;
      birthday = (ap (plain text_kind) (own_is Birthday) ∙ one_back Birthday string text_kind s.birthday (λ t is. refl)) i;
      birthdate = (ap (plain text_kind) (own_is Birthdate) ∙ one_back Birthdate string text_kind s.birthdate (λ t is. refl)) i;
      zoneinfo = (ap (plain text_kind) (own_is Zoneinfo) ∙ one_back Zoneinfo string text_kind s.zoneinfo (λ t is. refl)) i;
      locale = (ap (plain text_kind) (own_is Locale) ∙ one_back Locale string text_kind s.locale (λ t is. refl)) i;
      phone_number = (ap (plain text_kind) (own_is PhoneNumber) ∙ one_back PhoneNumber string text_kind s.phone_number (λ t is. refl)) i;
      phone_number_verified = (ap (plain (flag_kind reading)) (own_is PhoneNumberVerified) ∙ one_back PhoneNumberVerified boolean (flag_kind reading) s.phone_number_verified (λ b is. refl)) i;
      address = (ap (plain address_kind) (own_is Address) ∙ one_back Address address_data address_kind s.address (λ a is. held_back address_kind (one Address (address_data a)) a refl (address_fits a is))) i;
      updated_at = (ap (plain (moment_kind reading)) (own_is UpdatedAt) ∙ one_back UpdatedAt seconds_data (moment_kind reading) s.updated_at (λ n is. held_back (moment_kind reading) (one UpdatedAt (seconds_data n)) n refl (moment_fits n (whole n is)))) i;
    }

    -- what is written is read back
    pub reads_back : claims_of gender_read reading (seen (written gender_data s)) ≡ Ok s
    reads_back =
        let clean : first_fault gender_read reading members ≡ None = no_fault key same (judge gender_read reading) (fault_at gender_read reading) parts are_parts judges all_claims (apart_from key same (judge gender_read reading) (fault_at gender_read reading) all_claims refl) in
        let subject : first_value text_kind (own Subject members) ≡ Some s.subject = ap (first_value text_kind) (own_is Subject) in
        ap (claims_of gender_read reading) (map_flat (read_with text_of) (claim_members gender_data s) all_claims)
        ∙ ap (λ o. unless_refused gender_read reading o members) clean
        ∙ ap (λ o. at_place (length members) (complete gender_read reading o members)) subject
        ∙ ap Ok claims_back
