-- Members that are read, where a text stands for each value.
use Rattle.std.proofs.Common.{◌≡◌, ℕ, List, map, Option, None, Some}
use Rattle.oidc_members.specs.Seen.{SeenMember, OutSeen}
use Rattle.oidc_members.specs.Objects.{members_of}
use Rattle.oidc_claims.specs.declared.claim.Claim.TheVariants.{Address}
use Rattle.oidc_claims.specs.declared.claims.address.AddressClaim.{AddressClaim}
use Rattle.oidc_claims.specs.Table.{name_of}
use Rattle.oidc_claims.specs.Write.{address_members, address_data}

abbrev pub read_with : (OutSeen → List ℕ) → OutSeen → SeenMember
read_with text_of m = record { name = m.name; value = m.value; text = text_of m }

-- The text that stands for the address is an object's, of the members that were written.
abbrev pub AddressStands : (OutSeen → List ℕ) → Option AddressClaim → Type 0
AddressStands text_of None = Unit {0}
AddressStands text_of (Some a) =
    members_of (text_of (record { name = name_of Address; value = address_data a })) ≡ Some (map (read_with text_of) (address_members a))
