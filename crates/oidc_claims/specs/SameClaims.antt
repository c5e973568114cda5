-- When two sets of standard claims are equal: each claim is.
use Rattle.std.specs.Prelude.{ℕ, List, Option, Bool, ◌&&◌, nat_eq, ◌≡◌, Some, None, true, refl}
use Rattle.std.specs.Bool.{beq}
use Rattle.std.specs.Ordering.{int_eq}
use Rattle.std.specs.Option.{option_eq}
use Rattle.std.specs.Cmp.Lexicographic.{pointwise, lists_equiv, options_equiv}
use Rattle.oidc_types.specs.{Variants}
use Rattle.oidc_types.specs.{same_variants}
use Rattle.oidc_claims.specs.declared.claims.address.AddressClaim.{AddressClaim}
use Rattle.oidc_claims.specs.Seen.{SeenClaims}
use Rattle.std.specs.FinMap as finite
use Rattle.std.specs.Cmp.{IsPartialEquivalence, IsEquivalence, partial_equiv_from_equiv, and_per, on_per, and_equiv, on_equiv, nat_eq_equiv, int_eq_equiv, bool_eq_equiv}

abbrev pub same_text : Option (List ℕ) → Option (List ℕ) → Bool
same_text = option_eq (pointwise nat_eq)

abbrev pub same_localized : Option (Variants (List ℕ)) → Option (Variants (List ℕ)) → Bool
same_localized = option_eq (same_variants (pointwise nat_eq))

abbrev pub same_address : AddressClaim → AddressClaim → Bool
same_address a b =
    same_text a.formatted b.formatted
    && same_text a.street_address b.street_address
    && same_text a.locality b.locality
    && same_text a.region b.region
    && same_text a.postal_code b.postal_code
    && same_text a.country b.country

module _ {Gender : Type 0} (gender_eq : Gender → Gender → Bool) where
  -- the names
  abbrev pub same_names : SeenClaims Gender → SeenClaims Gender → Bool
  same_names a b =
      same_localized a.name b.name
      && same_localized a.given_name b.given_name
      && same_localized a.family_name b.family_name
      && same_localized a.middle_name b.middle_name
      && same_localized a.nickname b.nickname
      && same_text a.preferred_username b.preferred_username

  -- the pages and the e-mail address
  abbrev pub same_pages : SeenClaims Gender → SeenClaims Gender → Bool
  same_pages a b =
      same_localized a.profile b.profile
      && same_localized a.picture b.picture
      && same_localized a.website b.website
      && same_text a.email b.email
      && option_eq beq a.email_verified b.email_verified

  -- the gender, the birthday, the zone and the locale
  abbrev pub same_person : SeenClaims Gender → SeenClaims Gender → Bool
  same_person a b =
      option_eq gender_eq a.gender b.gender
      && same_text a.birthday b.birthday
      && same_text a.birthdate b.birthdate
      && same_text a.zoneinfo b.zoneinfo
      && same_text a.locale b.locale

  -- the telephone, the address and the last change
  abbrev pub same_rest : SeenClaims Gender → SeenClaims Gender → Bool
  same_rest a b =
      same_text a.phone_number b.phone_number
      && option_eq beq a.phone_number_verified b.phone_number_verified
      && option_eq same_address a.address b.address
      && option_eq int_eq a.updated_at b.updated_at

  abbrev pub same_claims : SeenClaims Gender → SeenClaims Gender → Bool
  same_claims a b =
      pointwise nat_eq a.subject b.subject
      && same_names a b
      && same_pages a b
      && same_person a b
      && same_rest a b

-- ---- for the laws of `==`: it is symmetric and transitive

texts : IsEquivalence (pointwise nat_eq)
texts = lists_equiv nat_eq_equiv

text_equality : IsPartialEquivalence same_text
text_equality = partial_equiv_from_equiv (options_equiv texts)

localized_equality : IsPartialEquivalence same_localized
localized_equality = partial_equiv_from_equiv (options_equiv (on_equiv finite.entries (lists_equiv (and_equiv (on_equiv (λ e. e.0) (options_equiv texts)) (on_equiv (λ e. e.1) texts)))))

flag_equality : IsPartialEquivalence (option_eq beq)
flag_equality = partial_equiv_from_equiv (options_equiv bool_eq_equiv)

moment_equality : IsPartialEquivalence (option_eq int_eq)
moment_equality = partial_equiv_from_equiv (options_equiv int_eq_equiv)

module _ {K : Type 0} {E : K → K → Bool} (per : IsPartialEquivalence E) where
  flip : (p q : Option K) → option_eq E p q ≡ option_eq E q p
  flip None None = refl
  flip None (Some y) = refl
  flip (Some x) None = refl
  flip (Some x) (Some y) = per.symm x y

  chain : (p q s : Option K) → option_eq E p q ≡ true → option_eq E q s ≡ true → option_eq E p s ≡ true
  chain None None s e f = f
  chain None (Some y) s e f = absurd (cc)
  chain (Some x) None s e f = absurd (cc)
  chain (Some x) (Some y) None e f = absurd (cc)
  chain (Some x) (Some y) (Some z) e f = per.trans x y z e f

  pub options_equality : IsPartialEquivalence (option_eq E)
  options_equality = record { symm = flip; trans = chain }

pub address_equality : IsPartialEquivalence same_address
address_equality =
    and_per (and_per (and_per (and_per (and_per (on_per (λ a. a.formatted) text_equality) (on_per (λ a. a.street_address) text_equality)) (on_per (λ a. a.locality) text_equality)) (on_per (λ a. a.region) text_equality)) (on_per (λ a. a.postal_code) text_equality)) (on_per (λ a. a.country) text_equality)

optional_address_equality : IsPartialEquivalence (option_eq same_address)
optional_address_equality = options_equality address_equality

module _ {Gender : Type 0} (gender_eq : Gender → Gender → Bool) (gender_equality : IsPartialEquivalence gender_eq) where
  names_equality : IsPartialEquivalence (same_names gender_eq)
  names_equality =
      and_per (and_per (and_per (and_per (and_per (on_per (λ c. c.name) localized_equality) (on_per (λ c. c.given_name) localized_equality)) (on_per (λ c. c.family_name) localized_equality)) (on_per (λ c. c.middle_name) localized_equality)) (on_per (λ c. c.nickname) localized_equality)) (on_per (λ c. c.preferred_username) text_equality)

  pages_equality : IsPartialEquivalence (same_pages gender_eq)
  pages_equality =
      and_per (and_per (and_per (and_per (on_per (λ c. c.profile) localized_equality) (on_per (λ c. c.picture) localized_equality)) (on_per (λ c. c.website) localized_equality)) (on_per (λ c. c.email) text_equality)) (on_per (λ c. c.email_verified) flag_equality)

  person_equality : IsPartialEquivalence (same_person gender_eq)
  person_equality =
      and_per (and_per (and_per (and_per (on_per (λ c. c.gender) (options_equality gender_equality)) (on_per (λ c. c.birthday) text_equality)) (on_per (λ c. c.birthdate) text_equality)) (on_per (λ c. c.zoneinfo) text_equality)) (on_per (λ c. c.locale) text_equality)

  rest_equality : IsPartialEquivalence (same_rest gender_eq)
  rest_equality =
      and_per (and_per (and_per (on_per (λ c. c.phone_number) text_equality) (on_per (λ c. c.phone_number_verified) flag_equality)) (on_per (λ c. c.address) optional_address_equality)) (on_per (λ c. c.updated_at) moment_equality)

  pub claims_equality : IsPartialEquivalence (same_claims gender_eq)
  claims_equality = and_per (and_per (and_per (and_per (on_per (λ c. c.subject) (partial_equiv_from_equiv texts)) (names_equality)) (pages_equality)) (person_equality)) (rest_equality)
