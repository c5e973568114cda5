-- How the logic stores the standard claims: as the tuple of their fields. No clause speaks of it.
use Rattle.std.specs.Prelude.{ℕ, ℤ, Bool, List, Option, refl}
use Rattle.std.specs.Coded.{Coded, code_by, coded×, coded_option, coded_list, coded_ℕ, coded_ℤ, coded_bool}
use Rattle.oidc_types.specs.{Variants, variants_code}
use Rattle.oidc_claims.specs.declared.claims.address.AddressClaim.{AddressClaim}
use Rattle.oidc_claims.specs.Seen.{SeenClaims}

abbrev text_code : Coded (List ℕ)
text_code = coded_list coded_ℕ

-- an optional text
abbrev Part : Type 0
Part = Option (List ℕ)

abbrev part_code : Coded Part
part_code = coded_option text_code

abbrev pub address_code : Coded AddressClaim
address_code =
    code_by (Part × (Part × (Part × (Part × (Part × Part)))))
    (coded× part_code (coded× part_code (coded× part_code (coded× part_code (coded× part_code part_code)))))
    (λ a. (a.formatted, (a.street_address, (a.locality, (a.region, (a.postal_code, a.country))))))
    (λ p. record { formatted = p.0; street_address = p.1.0; locality = p.1.1.0; region = p.1.1.1.0; postal_code = p.1.1.1.1.0; country = p.1.1.1.1.1 })
    (λ _. refl)

-- a claim in several languages
abbrev Localized : Type 0
Localized = Option (Variants (List ℕ))

abbrev localized_code : Coded Localized
localized_code = coded_option (variants_code text_code)

abbrev flag_code : Coded (Option Bool)
flag_code = coded_option coded_bool

-- the claims in four groups, in their order
abbrev Names : Type 0
Names = Localized × (Localized × (Localized × (Localized × (Localized × Part))))

abbrev names_code : Coded Names
names_code = coded× localized_code (coded× localized_code (coded× localized_code (coded× localized_code (coded× localized_code part_code))))

abbrev Pages : Type 0
Pages = Localized × (Localized × (Localized × (Part × (Option Bool))))

abbrev pages_code : Coded Pages
pages_code = coded× localized_code (coded× localized_code (coded× localized_code (coded× part_code flag_code)))

abbrev Person : Type 0 → Type 0
Person Gender = Option Gender × (Part × (Part × (Part × Part)))

abbrev person_code : {Gender : Type 0} → Coded Gender → Coded (Person Gender)
person_code gender = coded× (coded_option gender) (coded× part_code (coded× part_code (coded× part_code part_code)))

abbrev Rest : Type 0
Rest = Part × (Option Bool × (Option AddressClaim × (Option ℤ)))

abbrev rest_code : Coded Rest
rest_code = coded× part_code (coded× flag_code (coded× (coded_option address_code) (coded_option coded_ℤ)))

abbrev pub seen_claims_code : {Gender : Type 0} → Coded Gender → Coded (SeenClaims Gender)
seen_claims_code {Gender} gender =
    code_by (List ℕ × (Names × (Pages × (Person Gender × Rest))))
    (coded× text_code (coded× names_code (coded× pages_code (coded× (person_code gender) rest_code))))
    (λ c. (
      c.subject,
      (
        (c.name, (c.given_name, (c.family_name, (c.middle_name, (c.nickname, c.preferred_username))))),
        (
          (c.profile, (c.picture, (c.website, (c.email, c.email_verified)))),
          (
            (c.gender, (c.birthday, (c.birthdate, (c.zoneinfo, c.locale)))),
            (c.phone_number, (c.phone_number_verified, (c.address, c.updated_at))),
          ),
        ),
      ),
    ))
    (λ p. record {
      subject = p.0;
      name = p.1.0.0;
      given_name = p.1.0.1.0;
      family_name = p.1.0.1.1.0;
      middle_name = p.1.0.1.1.1.0;
      nickname = p.1.0.1.1.1.1.0;
      preferred_username = p.1.0.1.1.1.1.1;
      profile = p.1.1.0.0;
      picture = p.1.1.0.1.0;
      website = p.1.1.0.1.1.0;
      email = p.1.1.0.1.1.1.0;
      email_verified = p.1.1.0.1.1.1.1;
      gender = p.1.1.1.0.0;
      birthday = p.1.1.1.0.1.0;
      birthdate = p.1.1.1.0.1.1.0;
      zoneinfo = p.1.1.1.0.1.1.1.0;
      locale = p.1.1.1.0.1.1.1.1;
      phone_number = p.1.1.1.1.0;
      phone_number_verified = p.1.1.1.1.1.0;
      address = p.1.1.1.1.1.1.0;
      updated_at = p.1.1.1.1.1.1.1;
    })
    (λ _. refl)
