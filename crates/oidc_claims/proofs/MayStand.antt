-- What claims are written as may stand in an object: whole values that nest little.
use Rattle.std.proofs.Common.{◌≡◌, ℕ, ℤ, pos, negsuc, ◌≤◌, List, [], ◌∷◌, ◌++◌, map, Option, None, Some, option_map, Bool, true, false, ◌&&◌, cond, Less, refl, arith, nat_cmp}
use Rattle.std.specs.Prelude.{int_le, neg_ℤ, ◌*ℤ◌}
use Rattle.std.specs.Cmp.Lexicographic.{slice_cmp}
use Rattle.std.specs.FinMap as finite
use Rattle.std.specs.List.{flat_map, AllByRecursion}
use Rattle.std.specs.List.Sorted.{IsStrictlySortedBy}
use Rattle.std.proofs.lemmas.Bool.{leb-true}
use Rattle.serde_json.specs.Data.{Data, boolean, string, members_depth}
use Rattle.serde_json.specs.Find.{of_integer}
use Rattle.oidc_types.specs.{Variants}
use Rattle.oidc_members.specs.Seen.{OutSeen}
use Rattle.oidc_members.specs.Write.{data_of}
use Rattle.oidc_readers.specs.WrittenBack.{IsWholeNumber, AreInOrder, MembersAreWhole, MayStand, names_of}
use Rattle.oidc_claims.specs.declared.claim.Claim.{Claim}
use Rattle.oidc_claims.specs.declared.claim.Claim.TheVariants.{Subject, Name, GivenName, FamilyName, MiddleName, Nickname, PreferredUsername, Profile, Picture, Website, Email, EmailVerified, Gender, Birthday, Birthdate, Zoneinfo, Locale, PhoneNumber, PhoneNumberVerified, Address, UpdatedAt}
use Rattle.oidc_claims.specs.declared.claims.address.AddressClaim.{AddressClaim}
use Rattle.oidc_claims.specs.declared.claims.address_reader.AddressPart.{AddressPart}
use Rattle.oidc_claims.specs.declared.claims.address_reader.AddressPart.TheVariants as part
use Rattle.oidc_claims.specs.Address.{part_name}
use Rattle.oidc_claims.specs.Gender.{GenderIsValue}
use Rattle.oidc_readers.specs.Moments.{moment_at, seconds_of, seconds_data}
use Rattle.oidc_readers.specs.Writing.{text_member}
use Rattle.oidc_claims.specs.Write.{IsInRange, IsWholeSecond}
use Rattle.oidc_claims.specs.Seen.{SeenClaims}
use Rattle.oidc_claims.specs.Table.{all_claims}
use Rattle.oidc_claims.specs.Write.{part_members, parts_in_order, address_members, address_data, plain_member, variant_member, variant_members, claim_members, written}
use Rattle.oidc_claims.proofs.Seconds.{whole_second}

-- each member's value may stand, one by one
abbrev pub EachStands : List OutSeen → Type 0
EachStands [] = Unit {0}
EachStands (m ∷ ms) = MayStand m.value × EachStands ms

both : (xs ys : List OutSeen) → EachStands xs → EachStands ys → EachStands (xs ++ ys)
both [] ys h k = k
both (x ∷ xs) ys h k = (h.0, both xs ys h.1 k)

all_stand : {K : Type 0} (parts : K → List OutSeen) (ks : List K) → ((k : K) → EachStands (parts k)) → EachStands (flat_map parts ks)
all_stand parts [] h = tt
all_stand parts (k ∷ ks) h = both (parts k) (flat_map parts ks) (h k) (all_stand parts ks h)

-- ---- texts and flags

text_stands : (t : List ℕ) → MayStand (string t)
text_stands t = (tt, omega arith)

texts_stand : (c : Claim) (o : Option (List ℕ)) → EachStands (plain_member c (option_map string o))
texts_stand c None = tt
texts_stand c (Some t) = (text_stands t, tt)

flags_stand : (c : Claim) (o : Option Bool) → EachStands (plain_member c (option_map boolean o))
flags_stand c None = tt
flags_stand c (Some b) = ((tt, omega arith), tt)

entries_stand : (c : Claim) (es : List (Option (List ℕ) × List ℕ)) → EachStands (map (variant_member c) es)
entries_stand c [] = tt
entries_stand c (e ∷ es) = (text_stands e.1, entries_stand c es)

variants_stand : (c : Claim) (o : Option (Variants (List ℕ))) → EachStands (variant_members c o)
variants_stand c None = tt
variants_stand c (Some variants) = entries_stand c (finite.entries variants)

-- ---- moments

fits : (b : Bool) (x y : ℤ) → cond b (Some x) None ≡ Some y → b ≡ true
fits true x y h = refl
fits false x y h = absurd (cc)

left_true : (a b : Bool) → (a && b) ≡ true → a ≡ true
left_true true b h = refl
left_true false b h = absurd (cc)

right_true : (a b : Bool) → (a && b) ≡ true → b ≡ true
right_true true b h = h
right_true false b h = absurd (cc)

-- the seconds of the first moment and of the last
abbrev first : ℤ
first = neg_ℤ (pos 377_705_023_201)

abbrev last : ℤ
last = pos 253_402_207_200

-- the seconds of a moment are far within what a number holds
whole_seconds : (second nanosecond : ℤ) → moment_at second ≡ Some nanosecond → IsWholeNumber (of_integer second)
whole_seconds (pos n) nanosecond is =
    let test = fits _ (pos n *ℤ pos 1_000_000_000) nanosecond is in
    let below : n ≤ 253_402_207_200 = leb-true n 253_402_207_200 (right_true (int_le first (pos n)) (int_le (pos n) last) test) in
    omega arith
whole_seconds (negsuc n) nanosecond is =
    let test = fits _ (negsuc n *ℤ pos 1_000_000_000) nanosecond is in
    let above : n ≤ 377_705_023_200 = leb-true n 377_705_023_200 (left_true (int_le first (negsuc n)) (int_le (negsuc n) last) test) in
    omega arith

pub moments_stand : (c : Claim) (o : Option ℤ) → IsWholeSecond o → EachStands (plain_member c (option_map seconds_data o))
moments_stand c None h = tt
moments_stand c (Some n) h = ((whole_seconds (seconds_of n) n (whole_second n h.0 h.1), omega arith), tt)

-- ---- the address

text_first : (n : List ℕ) (o : Option (List ℕ)) (P : List OutSeen → Type 0) (ms : List OutSeen)
    → ((t : List ℕ) → P (record { name = n; value = string t } ∷ ms)) → P ms → P (text_member n o ++ ms)
text_first n None P ms there none = none
text_first n (Some t) P ms there none = there t

module _ (a : AddressClaim) where
  part_first : (p : AddressPart) (P : List OutSeen → Type 0) (ms : List OutSeen)
      → ((t : List ℕ) → P (record { name = part_name p; value = string t } ∷ ms)) → P ms → P (part_members a p ++ ms)
  part_first part.Formatted = text_first (part_name part.Formatted) a.formatted
  part_first part.StreetAddress = text_first (part_name part.StreetAddress) a.street_address
  part_first part.Locality = text_first (part_name part.Locality) a.locality
  part_first part.Region = text_first (part_name part.Region) a.region
  part_first part.PostalCode = text_first (part_name part.PostalCode) a.postal_code
  part_first part.Country = text_first (part_name part.Country) a.country

  abbrev parts : List AddressPart → List OutSeen
  parts = flat_map (part_members a)

  abbrev IsBelow : List ℕ → List OutSeen → Type 0
  IsBelow n ms = AllByRecursion (λ y. slice_cmp nat_cmp n y ≡ Less) (names_of (data_of ms))

  parts_above : (n : List ℕ) (qs : List AddressPart) → AllByRecursion (λ q. slice_cmp nat_cmp n (part_name q) ≡ Less) qs → IsBelow n (parts qs)
  parts_above n [] h = tt
  parts_above n (q ∷ qs) h =
      let rest = parts_above n qs h.1 in
      part_first q (IsBelow n) (parts qs) (λ t. (h.0, rest)) rest

  parts_ordered : (ps : List AddressPart) → IsStrictlySortedBy (λ p q. slice_cmp nat_cmp (part_name p) (part_name q)) ps → AreInOrder (data_of (parts ps))
  unfolding IsStrictlySortedBy
  parts_ordered [] h = tt
  parts_ordered (p ∷ ps) h =
      let rest = parts_ordered ps h.1 in
      part_first p (λ ms. AreInOrder (data_of ms)) (parts ps) (λ t. (parts_above (part_name p) ps h.0, rest)) rest

  parts_whole : (ps : List AddressPart) → MembersAreWhole (data_of (parts ps))
  parts_whole [] = tt
  parts_whole (p ∷ ps) =
      let rest = parts_whole ps in
      part_first p (λ ms. MembersAreWhole (data_of ms)) (parts ps) (λ t. (tt, rest)) rest

  parts_shallow : (ps : List AddressPart) → members_depth (data_of (parts ps)) ≤ 0
  parts_shallow [] = omega arith
  parts_shallow (p ∷ ps) =
      let rest = parts_shallow ps in
      part_first p (λ ms. members_depth (data_of ms) ≤ 0) (parts ps) (λ t. omega arith) rest

  sorted_parts : IsStrictlySortedBy (λ p q. slice_cmp nat_cmp (part_name p) (part_name q)) parts_in_order
  unfolding IsStrictlySortedBy
  sorted_parts = (
    (refl, (refl, (refl, (refl, (refl, tt))))),
    (
      (refl, (refl, (refl, (refl, tt)))),
      (
        (refl, (refl, (refl, tt))),
        (
          (refl, (refl, tt)),
          (
            (refl, tt),
            (tt, tt),
          ),
        ),
      ),
    ),
  )

  pub address_whole : MembersAreWhole (data_of (address_members a))
  address_whole = parts_whole parts_in_order

  pub address_shallow : members_depth (data_of (address_members a)) ≤ 0
  address_shallow = parts_shallow parts_in_order

  address_stands : MayStand (address_data a)
  address_stands =
      let shallow = address_shallow in
      ((parts_ordered parts_in_order sorted_parts, address_whole), omega arith)

addresses_stand : (c : Claim) (o : Option AddressClaim) → EachStands (plain_member c (option_map address_data o))
addresses_stand c None = tt
addresses_stand c (Some a) = (address_stands a, tt)

-- ---- all claims

module _ {GC : Type 0} (gender_data : GC → Data) (gender_there : GenderIsValue gender_data) where
  genders_stand : (c : Claim) (o : Option GC) → EachStands (plain_member c (option_map gender_data o))
  genders_stand c None = tt
  genders_stand c (Some g) = ((gender_there g).1, tt)

  claim_stands : (s : SeenClaims GC) → IsInRange s → (c : Claim) → EachStands (claim_members gender_data s c)
  claim_stands s r Subject = (text_stands s.subject, tt)
  claim_stands s r Name = variants_stand Name s.name
  claim_stands s r GivenName = variants_stand GivenName s.given_name
  claim_stands s r FamilyName = variants_stand FamilyName s.family_name
  claim_stands s r MiddleName = variants_stand MiddleName s.middle_name
  claim_stands s r Nickname = variants_stand Nickname s.nickname
  claim_stands s r PreferredUsername = texts_stand PreferredUsername s.preferred_username
  claim_stands s r Profile = variants_stand Profile s.profile
  claim_stands s r Picture = variants_stand Picture s.picture
  claim_stands s r Website = variants_stand Website s.website
  claim_stands s r Email = texts_stand Email s.email
  claim_stands s r EmailVerified = flags_stand EmailVerified s.email_verified
  claim_stands s r Gender = genders_stand Gender s.gender
  claim_stands s r Birthday = texts_stand Birthday s.birthday
  claim_stands s r Birthdate = texts_stand Birthdate s.birthdate
  claim_stands s r Zoneinfo = texts_stand Zoneinfo s.zoneinfo
  claim_stands s r Locale = texts_stand Locale s.locale
  claim_stands s r PhoneNumber = texts_stand PhoneNumber s.phone_number
  claim_stands s r PhoneNumberVerified = flags_stand PhoneNumberVerified s.phone_number_verified
  claim_stands s r Address = addresses_stand Address s.address
  claim_stands s r UpdatedAt = moments_stand UpdatedAt s.updated_at r.updated_at

  pub written_stands : (s : SeenClaims GC) → IsInRange s → EachStands (written gender_data s)
  written_stands s r = all_stand (claim_members gender_data s) all_claims (claim_stands s r)
