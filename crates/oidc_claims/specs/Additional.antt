-- The claims beside the standard ones (OpenID Connect Core 1.0 section 5.1.2), and the laws of a type
-- that keeps them.
use Rattle.std.specs.Prelude.{◌≡◌, List, map, Bool, Result, Ok, IsTrue}
use Rattle.std.specs.List.{list_all}
use Rattle.oidc_members.specs.Seen.{SeenMember, OutSeen}
use Rattle.oidc_members.specs.declared.refusal.Refusal.{Refusal}
use Rattle.oidc_claims.specs.Home.{is_additional}

-- Each member is additional.
abbrev pub are_additional : List SeenMember → Bool
are_additional members = list_all (λ m. is_additional m.name) members

abbrev pub are_written_additional : List OutSeen → Bool
are_written_additional members = list_all (λ m. is_additional m.name) members

-- the name and the value of a member that was read
abbrev pub out_of : SeenMember → OutSeen
out_of m = record { name = m.name; value = m.value }

module _ {Claims : Type 0} where
  -- What is written reads back, from every list of members with those names and values.
  abbrev pub ReadsBack : (List SeenMember → Result Claims Refusal) → (Claims → List OutSeen)
      → Type 0
  ReadsBack read write =
      (claims : Claims) (members : List SeenMember) → map out_of members ≡ write claims
      → read members ≡ Ok claims

  -- What is written has no name of a user info field, and none whose base is a standard claim.
  abbrev pub StaysAdditional : (Claims → List OutSeen) → Type 0
  StaysAdditional write = (claims : Claims) → IsTrue (are_written_additional (write claims))
