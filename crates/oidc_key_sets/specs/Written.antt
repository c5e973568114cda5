-- A set of keys as it is written (RFC 7517 section 5).
use Rattle.std.specs.Prelude.{ℕ, List, [], ◌∷◌, ◌++◌, map, codes, Option, None, Some}
use Rattle.json.specs.Json.{Json, string, array, object, Members, no_members, member}
use Rattle.json.specs.Value.{items_of}
use Rattle.oidc_key_sets.specs.declared.errors.KeyMember.{KeyMember}
use Rattle.oidc_key_sets.specs.declared.errors.KeyMember.TheVariants as named
use Rattle.oidc_key_sets.specs.Keys.{SeenRsaKey, member_name}
use Rattle.oidc_key_sets.specs.Numbers.{encoded}

-- ---- members of an object, in their order

-- a name and a value
abbrev pub Named : Type 0
Named = List ℕ × Json

abbrev pub members_of : List Named → Members
members_of [] = no_members
members_of (m ∷ ms) = member m.0 m.1 (members_of ms)

abbrev pub text_member : KeyMember → List ℕ → List Named
text_member name text = (member_name name, string text) ∷ []

-- A member that is absent is left out.
abbrev pub text_member_if : KeyMember → Option (List ℕ) → List Named
text_member_if name None = []
text_member_if name (Some text) = text_member name text

abbrev pub texts_array : List (List ℕ) → Json
texts_array texts = array (items_of (map string texts))

abbrev pub texts_member_if : KeyMember → Option (List (List ℕ)) → List Named
texts_member_if name None = []
texts_member_if name (Some texts) = (member_name name, texts_array texts) ∷ []

-- ---- keys and sets

abbrev pub key_members : SeenRsaKey → List Named
key_members key =
    text_member named.Kty (codes "RSA")
    ++ text_member_if named.Use key.purpose
    ++ texts_member_if named.KeyOps key.operations
    ++ text_member_if named.Alg key.algorithm
    ++ text_member_if named.Kid key.id
    ++ text_member named.N (encoded key.modulus)
    ++ text_member named.E (encoded key.exponent)

unfoldable pub written_key : SeenRsaKey → Json
written_key key = object (members_of (key_members key))

abbrev pub written_set : List SeenRsaKey → Json
written_set keys = object (members_of ((codes "keys", array (items_of (map written_key keys))) ∷ []))
