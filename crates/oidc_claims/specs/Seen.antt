-- The standard claims as contracts see them (OpenID Connect Core 1.0 section 5.1).
use Rattle.std.specs.Prelude.{ℕ, ℤ, Bool, List, Option, None}
use Rattle.oidc_types.specs.{Variants}
use Rattle.oidc_claims.specs.declared.claims.address.AddressClaim.{AddressClaim}

-- A claim that isn't there is none. A moment is in nanoseconds since the Unix epoch.
pub record SeenClaims (Gender : Type 0) : Type 0 where
  pub subject : List ℕ
  pub name : Option (Variants (List ℕ))
  pub given_name : Option (Variants (List ℕ))
  pub family_name : Option (Variants (List ℕ))
  pub middle_name : Option (Variants (List ℕ))
  pub nickname : Option (Variants (List ℕ))
  pub preferred_username : Option (List ℕ)
  pub profile : Option (Variants (List ℕ))
  pub picture : Option (Variants (List ℕ))
  pub website : Option (Variants (List ℕ))
  pub email : Option (List ℕ)
  pub email_verified : Option Bool
  pub gender : Option Gender
  pub birthday : Option (List ℕ)
  pub birthdate : Option (List ℕ)
  pub zoneinfo : Option (List ℕ)
  pub locale : Option (List ℕ)
  pub phone_number : Option (List ℕ)
  pub phone_number_verified : Option Bool
  pub address : Option AddressClaim
  pub updated_at : Option ℤ

-- the claims of a subject, with every other claim absent
abbrev pub only_subject : {Gender : Type 0} → List ℕ → SeenClaims Gender
only_subject subject = record {
  subject = subject;
  name = None;
  given_name = None;
  family_name = None;
  middle_name = None;
  nickname = None;
  preferred_username = None;
  profile = None;
  picture = None;
  website = None;
  email = None;
  email_verified = None;
  gender = None;
  birthday = None;
  birthdate = None;
  zoneinfo = None;
  locale = None;
  phone_number = None;
  phone_number_verified = None;
  address = None;
  updated_at = None;
}
