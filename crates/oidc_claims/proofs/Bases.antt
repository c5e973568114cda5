-- Standard claims by the bases of their names: members of other names change nothing of what the claims are,
-- and are none of those that are written.
use Rattle.std.proofs.Common.{◌≡◌, ℕ, ℤ, List, [], ◌∷◌, ◌++◌, map, Bool, true, false, ◌||◌, ◌&&◌, cond, Option, None, Some, option_map, Result, Ok, Err, codes, refl, sym, ap, ◌∙◌, filter, is_some, find, length}
use Rattle.std.specs.FinMap as finite
use Rattle.std.specs.List.{flat_map, list_any, list_all}
use Rattle.std.specs.Str.{bytes_eq}
use Rattle.std.proofs.lemmas.Bool.{and_from, false≢true, true≢false}
use Rattle.std.proofs.lemmas.List.Folds.{list_all-append}
use Rattle.std.proofs.lemmas.Slice.Eq.{bytes_eq-Decides}
use Rattle.serde_json.specs.Data.{Data, boolean, string}
use Rattle.oidc_types.specs.{Variants}
use Rattle.oidc_members.specs.Seen.{SeenMember, OutSeen}
use Rattle.oidc_members.specs.declared.reading.Reading.{Reading}
use Rattle.oidc_members.specs.declared.refusal.Refusal.{Refusal}
use Rattle.oidc_readers.specs.Fields.{first_value}
use Rattle.oidc_readers.specs.Kinds.{text_kind}
use Rattle.oidc_readers.specs.Moments.{seconds_data}
use Rattle.oidc_readers.specs.WrittenBack.{MayStand}
use Rattle.oidc_claims.specs.declared.claim.Claim.{Claim}
use Rattle.oidc_claims.specs.declared.claim.Claim.TheVariants.{Subject, Name, GivenName, FamilyName, MiddleName, Nickname, PreferredUsername, Profile, Picture, Website, Email, EmailVerified, Gender, Birthday, Birthdate, Zoneinfo, Locale, PhoneNumber, PhoneNumberVerified, Address, UpdatedAt}
use Rattle.oidc_claims.specs.Seen.{SeenClaims}
use Rattle.oidc_claims.specs.Table.{name_of, kind_of, all_claims, base_of, claim_of, key_of}
use Rattle.oidc_claims.specs.Claims.{is_of, own, fault_of_kind, fault_by, fault_at}
use Rattle.oidc_claims.specs.Standard.{subject_of, at_place, complete, faultless_claims, unless_refused, with_subject}
use Rattle.oidc_claims.specs.Write.{address_data, written, claim_members, plain_member, with_tag, variant_member, variant_members, IsWholeSecond}
use Rattle.oidc_claims.proofs.MayStand.{moments_stand}

-- a moment at a whole second is a value that an object may have
pub moment_stands : (moment : ℤ) → IsWholeSecond (Some moment) → MayStand (seconds_data moment)
moment_stands moment h = (moments_stand UpdatedAt (Some moment) h).0

-- ---- the base of a name

abbrev pub standard_name : List ℕ → Bool
standard_name name = list_any (λ claim. bytes_eq (base_of name) (name_of claim)) all_claims

abbrev pub is_standard : SeenMember → Bool
is_standard m = list_any (λ claim. is_of claim m) all_claims

same_tests : (xs ys : List ℕ) (a b : Bool) → bytes_eq xs ys ≡ a → bytes_eq ys xs ≡ b → a ≡ b
same_tests xs ys true true p q = refl
same_tests xs ys false false p q = refl
same_tests xs ys true false p q = absurd (true≢false (sym ((bytes_eq-Decides ys xs).1 (sym ((bytes_eq-Decides xs ys).0 p))) ∙ q))
same_tests xs ys false true p q = absurd (false≢true (sym p ∙ (bytes_eq-Decides xs ys).1 (sym ((bytes_eq-Decides ys xs).0 q))))

turned : (xs ys : List ℕ) → bytes_eq xs ys ≡ bytes_eq ys xs
turned xs ys = same_tests xs ys _ _ refl refl

-- a claim is found exactly where one of them has that base
found_by : (test : Claim → Bool) (c : Claim) (cs : List Claim) (b : Bool) → test c ≡ b → is_some (find test cs) ≡ list_any test cs
    → is_some (find test (c ∷ cs)) ≡ list_any test (c ∷ cs)
found_by test c cs true h rest = (λ i. is_some (cond (h i) (Some c) (find test cs))) ∙ sym (λ i. h i || list_any test cs)
found_by test c cs false h rest = (λ i. is_some (cond (h i) (Some c) (find test cs))) ∙ rest ∙ sym (λ i. h i || list_any test cs)

found : (test : Claim → Bool) (cs : List Claim) → is_some (find test cs) ≡ list_any test cs
found test [] = refl
found test (c ∷ cs) = found_by test c cs _ refl (found test cs)

any_same : (f g : Claim → Bool) → ((c : Claim) → f c ≡ g c) → (cs : List Claim) → list_any f cs ≡ list_any g cs
any_same f g same [] = refl
any_same f g same (c ∷ cs) = λ i. same c i || any_same f g same cs i

pub is_claim : (m : SeenMember) → is_some (claim_of (key_of m.name).0) ≡ is_standard m
is_claim m = found (λ claim. bytes_eq (name_of claim) (base_of m.name)) all_claims ∙ any_same _ _ (λ claim. turned (name_of claim) (base_of m.name)) all_claims

-- ---- members of other names

narrowed_by : (p q : SeenMember → Bool) → ((m : SeenMember) → p m ≡ true → q m ≡ true) → (m : SeenMember) (ms : List SeenMember) (a b : Bool) → p m ≡ a → q m ≡ b
    → filter p (filter q ms) ≡ filter p ms → filter p (cond b (m ∷ filter q ms) (filter q ms)) ≡ cond a (m ∷ filter p ms) (filter p ms)
narrowed_by p q within m ms true true pm qm h = (λ i. cond (pm i) (m ∷ h i) (h i))
narrowed_by p q within m ms false true pm qm h = (λ i. cond (pm i) (m ∷ h i) (h i))
narrowed_by p q within m ms true false pm qm h = absurd (true≢false (sym (within m pm) ∙ qm))
narrowed_by p q within m ms false false pm qm h = h

-- members that pass the one test pass the other, which so takes none of them away
pub narrowed : (p q : SeenMember → Bool) → ((m : SeenMember) → p m ≡ true → q m ≡ true) → (ms : List SeenMember) → filter p (filter q ms) ≡ filter p ms
narrowed p q within [] = refl
narrowed p q within (m ∷ ms) =
    ap (filter p) refl ∙ narrowed_by p q within m ms _ _ refl refl (narrowed p q within ms)

claim_within : (cs : List Claim) (claim : Claim) (m : SeenMember) → list_any (λ c. bytes_eq (name_of claim) (name_of c)) cs ≡ true → is_of claim m ≡ true → list_any (λ c. is_of c m) cs ≡ true
claim_within cs claim m known h =
    ap (λ base. list_any (λ c. bytes_eq base (name_of c)) cs) ((bytes_eq-Decides (base_of m.name) (name_of claim)).0 h) ∙ known

all_known : (c : Claim) → list_any (λ d. bytes_eq (name_of c) (name_of d)) all_claims ≡ true
all_known Subject = refl
all_known Name = refl
all_known GivenName = refl
all_known FamilyName = refl
all_known MiddleName = refl
all_known Nickname = refl
all_known PreferredUsername = refl
all_known Profile = refl
all_known Picture = refl
all_known Website = refl
all_known Email = refl
all_known EmailVerified = refl
all_known Gender = refl
all_known Birthday = refl
all_known Birthdate = refl
all_known Zoneinfo = refl
all_known Locale = refl
all_known PhoneNumber = refl
all_known PhoneNumberVerified = refl
all_known Address = refl
all_known UpdatedAt = refl

placed_ok : {A : Type 0} (answer : Result A Refusal) (place : ℕ) (x : A) → at_place place answer ≡ Ok x → answer ≡ Ok x
placed_ok (Ok y) place x h = cc
placed_ok (Err refusal) place x h = absurd cc

module _ {GC : Type 0} (gender_read : SeenMember → Result GC Refusal) (reading : Reading) where
  claim_same : (ms : List SeenMember) (claim : Claim) → own claim (filter is_standard ms) ≡ own claim ms
  claim_same ms claim = narrowed (is_of claim) is_standard (λ m h. claim_within all_claims claim m (all_known claim) h) ms

  with_subject_same : (subject : List ℕ) (ms : List SeenMember) → with_subject gender_read reading subject (filter is_standard ms) ≡ with_subject gender_read reading subject ms
  unfolding with_subject
  with_subject_same subject ms = rw (
    claim_same ms Name,
    claim_same ms GivenName,
    claim_same ms FamilyName,
    claim_same ms MiddleName,
    claim_same ms Nickname,
    claim_same ms PreferredUsername,
    claim_same ms Profile,
    claim_same ms Picture,
    claim_same ms Website,
    claim_same ms Email,
    claim_same ms EmailVerified,
    claim_same ms Gender,
    claim_same ms Birthday,
    claim_same ms Birthdate,
    claim_same ms Zoneinfo,
    claim_same ms Locale,
    claim_same ms PhoneNumber,
    claim_same ms PhoneNumberVerified,
    claim_same ms Address,
    claim_same ms UpdatedAt,
  ) refl

  complete_same : (subject : Option (List ℕ)) (ms : List SeenMember) → complete gender_read reading subject (filter is_standard ms) ≡ complete gender_read reading subject ms
  complete_same None ms = refl
  complete_same (Some subject) ms = ap Ok (with_subject_same subject ms)

  pub standard_same : (ms : List SeenMember) → faultless_claims gender_read reading (filter is_standard ms) ≡ faultless_claims gender_read reading ms
  standard_same ms =
      ap (λ members. complete gender_read reading (first_value text_kind members) (filter is_standard ms)) (claim_same ms Subject) ∙ complete_same (subject_of ms) ms

  -- ---- the rule of the standard claims

  silent_by : (o : Option Claim) (before : List SeenMember) (m : SeenMember) → is_some o ≡ false → fault_by gender_read reading o before m ≡ None
  silent_by None before m h = refl
  silent_by (Some c) before m h = absurd (true≢false h)

  pub fault_outside : (before : List SeenMember) (m : SeenMember) → is_standard m ≡ false → fault_at gender_read reading before m ≡ None
  fault_outside before m h = silent_by (claim_of (base_of m.name)) before m (is_claim m ∙ h)

  narrowed_by_claim : (o : Option Claim) (before : List SeenMember) (m : SeenMember) → fault_by gender_read reading o before m ≡ fault_by gender_read reading o (filter is_standard before) m
  narrowed_by_claim None before m = refl
  narrowed_by_claim (Some c) before m = ap (λ came. fault_of_kind gender_read reading (kind_of c) came m) (sym (claim_same before c))

  pub fault_narrowed : (before : List SeenMember) (m : SeenMember) → fault_at gender_read reading before m ≡ fault_at gender_read reading (filter is_standard before) m
  fault_narrowed before m = narrowed_by_claim (claim_of (base_of m.name)) before m

  pub claims_by : (fault : Option (ℕ × Refusal)) (ms : List SeenMember) (s : SeenClaims GC) → unless_refused gender_read reading fault ms ≡ Ok s → (fault ≡ None) × (faultless_claims gender_read reading ms ≡ Ok s)
  claims_by (Some fault) ms s h = absurd cc
  claims_by None ms s h = (refl, placed_ok (faultless_claims gender_read reading ms) (length ms) s h)

-- ---- the names of what is written

abbrev pub are_standard : List OutSeen → Bool
are_standard ms = list_all (λ m. standard_name m.name) ms

-- a standard claim's name, with any tag
known : (c : Claim) → standard_name (name_of c) ≡ true
known Subject = refl
known Name = refl
known GivenName = refl
known FamilyName = refl
known MiddleName = refl
known Nickname = refl
known PreferredUsername = refl
known Profile = refl
known Picture = refl
known Website = refl
known Email = refl
known EmailVerified = refl
known Gender = refl
known Birthday = refl
known Birthdate = refl
known Zoneinfo = refl
known Locale = refl
known PhoneNumber = refl
known PhoneNumberVerified = refl
known Address = refl
known UpdatedAt = refl

known_tagged : (c : Claim) (tag : List ℕ) → standard_name (name_of c ++ codes "#" ++ tag) ≡ true
known_tagged Subject tag = refl
known_tagged Name tag = refl
known_tagged GivenName tag = refl
known_tagged FamilyName tag = refl
known_tagged MiddleName tag = refl
known_tagged Nickname tag = refl
known_tagged PreferredUsername tag = refl
known_tagged Profile tag = refl
known_tagged Picture tag = refl
known_tagged Website tag = refl
known_tagged Email tag = refl
known_tagged EmailVerified tag = refl
known_tagged Gender tag = refl
known_tagged Birthday tag = refl
known_tagged Birthdate tag = refl
known_tagged Zoneinfo tag = refl
known_tagged Locale tag = refl
known_tagged PhoneNumber tag = refl
known_tagged PhoneNumberVerified tag = refl
known_tagged Address tag = refl
known_tagged UpdatedAt tag = refl

with_tag_known : (c : Claim) (tag : Option (List ℕ)) → standard_name (with_tag (name_of c) tag) ≡ true
with_tag_known c None = known c
with_tag_known c (Some tag) = known_tagged c tag

plain_named : (c : Claim) (o : Option Data) → are_standard (plain_member c o) ≡ true
plain_named c None = refl
plain_named c (Some value) = and_from (standard_name (name_of c)) true (known c) refl

entries_standard : (c : Claim) (es : List (Option (List ℕ) × List ℕ)) → are_standard (map (variant_member c) es) ≡ true
entries_standard c [] = refl
entries_standard c (e ∷ es) = and_from (standard_name (with_tag (name_of c) e.0)) (are_standard (map (variant_member c) es)) (with_tag_known c e.0) (entries_standard c es)

variants_named : (c : Claim) (o : Option (Variants (List ℕ))) → are_standard (variant_members c o) ≡ true
variants_named c None = refl
variants_named c (Some variants) = entries_standard c (finite.entries variants)

module _ {GC : Type 0} (gender_data : GC → Data) (s : SeenClaims GC) where
  claim_named : (c : Claim) → are_standard (claim_members gender_data s c) ≡ true
  claim_named Subject = plain_named Subject (Some (string s.subject))
  claim_named Name = variants_named Name s.name
  claim_named GivenName = variants_named GivenName s.given_name
  claim_named FamilyName = variants_named FamilyName s.family_name
  claim_named MiddleName = variants_named MiddleName s.middle_name
  claim_named Nickname = variants_named Nickname s.nickname
  claim_named PreferredUsername = plain_named PreferredUsername (option_map string s.preferred_username)
  claim_named Profile = variants_named Profile s.profile
  claim_named Picture = variants_named Picture s.picture
  claim_named Website = variants_named Website s.website
  claim_named Email = plain_named Email (option_map string s.email)
  claim_named EmailVerified = plain_named EmailVerified (option_map boolean s.email_verified)
  claim_named Gender = plain_named Gender (option_map gender_data s.gender)
  claim_named Birthday = plain_named Birthday (option_map string s.birthday)
  claim_named Birthdate = plain_named Birthdate (option_map string s.birthdate)
  claim_named Zoneinfo = plain_named Zoneinfo (option_map string s.zoneinfo)
  claim_named Locale = plain_named Locale (option_map string s.locale)
  claim_named PhoneNumber = plain_named PhoneNumber (option_map string s.phone_number)
  claim_named PhoneNumberVerified = plain_named PhoneNumberVerified (option_map boolean s.phone_number_verified)
  claim_named Address = plain_named Address (option_map address_data s.address)
  claim_named UpdatedAt = plain_named UpdatedAt (option_map seconds_data s.updated_at)

  claims_named : (cs : List Claim) → are_standard (flat_map (claim_members gender_data s) cs) ≡ true
  claims_named [] = refl
  claims_named (c ∷ cs) =
      list_all-append (λ m. standard_name m.name) (claim_members gender_data s c) (flat_map (claim_members gender_data s) cs)
      ∙ (λ i. claim_named c i && claims_named cs i)

  pub standard_named : are_standard (written gender_data s) ≡ true
  standard_named = claims_named all_claims
