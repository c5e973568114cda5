-- The claim `address`: an object of optional texts (OpenID Connect Core 1.0 section 5.1.1).
use Rattle.std.specs.Prelude.{ℕ, List, [], ◌∷◌, codes, if◌then◌else◌, is_some, Option, Result, Ok, Err}
use Rattle.serde_json.specs.Find.{as_object}
use Rattle.oidc_members.specs.Seen.{SeenMember}
use Rattle.oidc_members.specs.Objects.{split_of}
use Rattle.oidc_members.specs.declared.refusal.Refusal.{Refusal}
use Rattle.oidc_members.specs.declared.refusal.ParseKind.TheVariants.{WrongType}
use Rattle.oidc_readers.specs.Kinds.{Kind, of_member, text_kind, or_null}
use Rattle.oidc_readers.specs.Fields.{Field, field, judged}
use Rattle.oidc_readers.specs.Records.{◌>>=◌, Rule, by_table, faultless, optional}
use Rattle.oidc_claims.specs.declared.claims.address.AddressClaim.{AddressClaim}
use Rattle.oidc_claims.specs.declared.claims.address_reader.AddressPart.{AddressPart}
use Rattle.oidc_claims.specs.declared.claims.address_reader.AddressPart.TheVariants.{Formatted, StreetAddress, Locality, Region, PostalCode, Country}

-- ---- the table

abbrev pub part_name : AddressPart → List ℕ
part_name Formatted = codes "formatted"
part_name StreetAddress = codes "street_address"
part_name Locality = codes "locality"
part_name Region = codes "region"
part_name PostalCode = codes "postal_code"
part_name Country = codes "country"

-- A part is a text or null.
abbrev pub part_field : AddressPart → Field (Option (List ℕ))
part_field part = field (part_name part) (or_null text_kind)

-- why a member of an address is faulty, after those before it; other members may be anything
abbrev pub address_rule : Rule
address_rule =
    by_table
    (judged (part_field Formatted)
    ∷ judged (part_field StreetAddress)
    ∷ judged (part_field Locality)
    ∷ judged (part_field Region)
    ∷ judged (part_field PostalCode)
    ∷ judged (part_field Country)
    ∷ [])

-- ---- the address

unfoldable pub address_of : List SeenMember → AddressClaim
address_of members = record {
  formatted = optional (part_field Formatted) members;
  street_address = optional (part_field StreetAddress) members;
  locality = optional (part_field Locality) members;
  region = optional (part_field Region) members;
  postal_code = optional (part_field PostalCode) members;
  country = optional (part_field Country) members;
}

-- the address, or why its first faulty member is refused
abbrev pub address_in : List SeenMember → Result AddressClaim Refusal
address_in members = faultless address_rule members >>= λ u. Ok (address_of members)

-- An object, whose own members are those of its text.
abbrev pub address_kind : Kind AddressClaim
address_kind m =
    if is_some (as_object m.value)
    then split_of m.text >>= address_in
    else Err (of_member WrongType m)
