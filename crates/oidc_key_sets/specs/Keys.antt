-- What a key of a set says (RFC 7517 section 4, RFC 7518 section 6.3.1), and why one is refused.
use Rattle.std.specs.Prelude.{ℕ, List, [], ◌∷◌, Bool, codes, find, is_some, Option, None, Some, option_map, option_and_then, Result, Ok, Err, if◌then◌else◌}
use Rattle.std.specs.Option.{ok_or}
use Rattle.json.specs.Json.{Json, Items, no_items, item}
use Rattle.json.specs.Find.{get, is_null, as_str, as_array, as_object}
use Rattle.oidc_types.specs.{find_word}
use Rattle.oidc_types.specs.CoreAlgorithms.{key_type_text, key_types}
use Rattle.oidc_types.specs.declared.core_algorithms.CoreJsonWebKeyType.{CoreJsonWebKeyType}
use Rattle.oidc_types.specs.declared.core_algorithms.CoreJsonWebKeyType.TheVariants as key_type
use Rattle.oidc_readers.specs.Records.{◌>>=◌}
use Rattle.oidc_key_sets.specs.declared.errors.KeyMember.{KeyMember}
use Rattle.oidc_key_sets.specs.declared.errors.KeyMember.TheVariants as named
use Rattle.oidc_key_sets.specs.declared.errors.KeyError.{KeyError}
use Rattle.oidc_key_sets.specs.declared.errors.KeyError.TheVariants.{NoObject, Missing, WrongType, Number, Private, Symmetric}
use Rattle.oidc_key_sets.specs.Numbers.{octets_of}

-- ---- members

abbrev pub member_name : KeyMember → List ℕ
member_name named.Kty = codes "kty"
member_name named.Use = codes "use"
member_name named.KeyOps = codes "key_ops"
member_name named.Alg = codes "alg"
member_name named.Kid = codes "kid"
member_name named.N = codes "n"
member_name named.E = codes "e"
member_name named.D = codes "d"
member_name named.P = codes "p"
member_name named.Q = codes "q"
member_name named.Dp = codes "dp"
member_name named.Dq = codes "dq"
member_name named.Qi = codes "qi"
member_name named.Oth = codes "oth"
member_name named.K = codes "k"

abbrev pub unless_null : Option Json → Option Json
unless_null None = None
unless_null (Some value) = if is_null value then None else Some value

-- what a member of a key holds. A null stands for an absent value.
abbrev pub found : KeyMember → Json → Option Json
found member key = unless_null (get (member_name member) key)

-- a value that has to be there, of a kind
abbrev pub required : {V : Type 0} → KeyMember → (Json → Result V KeyError) → Json → Result V KeyError
required member kind key = ok_or (found member key) (Missing member) >>= kind

abbrev pub there : {V : Type 0} → Result V KeyError → Result (Option V) KeyError
there (Ok value) = Ok (Some value)
there (Err error) = Err error

abbrev pub if_there : {V : Type 0} → (Json → Result V KeyError) → Option Json → Result (Option V) KeyError
if_there kind None = Ok None
if_there kind (Some value) = there (kind value)

-- a value that may be absent
abbrev pub optional : {V : Type 0} → KeyMember → (Json → Result V KeyError) → Json → Result (Option V) KeyError
optional member kind key = if_there kind (found member key)

-- ---- kinds of values

abbrev pub text_kind : KeyMember → Json → Result (List ℕ) KeyError
text_kind member value = ok_or (as_str value) (WrongType member)

-- the octets of a number
abbrev pub number_kind : KeyMember → Json → Result (List ℕ) KeyError
number_kind member value = text_kind member value >>= λ text. ok_or (octets_of text) (Number member)

abbrev pub texts_in : Items → Option (List (List ℕ))
texts_in no_items = Some []
texts_in (item value rest) =
    option_and_then (λ text. option_map (λ texts. text ∷ texts) (texts_in rest)) (as_str value)

-- an array of texts
abbrev pub texts_kind : KeyMember → Json → Result (List (List ℕ)) KeyError
texts_kind member value = ok_or (option_and_then texts_in (as_array value)) (WrongType member)

-- ---- public keys of RSA

-- what a set says of one: the octets of its modulus and of its exponent (RFC 7518 sections 6.3.1.1 and 6.3.1.2), and
-- what it is for and its id, where that is said (RFC 7517 sections 4.2 to 4.5)
pub record SeenRsaKey : Type 0 where
  pub modulus : List ℕ
  pub exponent : List ℕ
  pub purpose : Option (List ℕ)
  pub operations : Option (List (List ℕ))
  pub algorithm : Option (List ℕ)
  pub id : Option (List ℕ)

unfoldable pub rsa_key_in : Json → Result SeenRsaKey KeyError
rsa_key_in key = do
  modulus ← required named.N (number_kind named.N) key
  exponent ← required named.E (number_kind named.E) key
  purpose ← optional named.Use (text_kind named.Use) key
  operations ← optional named.KeyOps (texts_kind named.KeyOps) key
  algorithm ← optional named.Alg (text_kind named.Alg) key
  id ← optional named.Kid (text_kind named.Kid) key
  Ok (record {
    modulus = modulus;
    exponent = exponent;
    purpose = purpose;
    operations = operations;
    algorithm = algorithm;
    id = id;
  })

-- ---- keys of any type

-- what only a private key has (RFC 7518 sections 6.2.2.1, 6.3.2 and 6.4.1, RFC 8037 section 2)
abbrev pub private_members : List KeyMember
private_members =
    named.D ∷ named.P ∷ named.Q ∷ named.Dp ∷ named.Dq ∷ named.Qi ∷ named.Oth ∷ named.K ∷ []

-- the first of these that a key has
abbrev pub private_in : Json → Option KeyMember
private_in key = find (λ member. is_some (found member key)) private_members

abbrev pub unless_private : {V : Type 0} → Option KeyMember → Result V KeyError → Result V KeyError
unless_private None next = next
unless_private (Some member) next = Err (Private member)

abbrev pub is_object : Json → Bool
is_object value = is_some (as_object value)

-- the type of a key, where it is one that is known (RFC 7518 section 6.1, RFC 8037 section 2)
abbrev pub type_named : List ℕ → Option CoreJsonWebKeyType
type_named = find_word key_type_text key_types

-- By type: RSA is read, and a secret is refused. Elliptic curves and other types are left out (RFC 7517 section 5),
-- those of curves only where nothing of theirs is private.
abbrev pub by_type : Option CoreJsonWebKeyType → Json → Result (Option SeenRsaKey) KeyError
by_type None key = Ok None
by_type (Some key_type.RSA) key = unless_private (private_in key) (there (rsa_key_in key))
by_type (Some key_type.EllipticCurve) key = unless_private (private_in key) (Ok None)
by_type (Some key_type.OctetKeyPair) key = unless_private (private_in key) (Ok None)
by_type (Some key_type.Symmetric) key = Err Symmetric

abbrev pub typed_key : Json → Result (Option SeenRsaKey) KeyError
typed_key key = required named.Kty (text_kind named.Kty) key >>= λ text. by_type (type_named text) key

-- the key of RSA that a value is, or none where it is left out
unfoldable pub key_in : Json → Result (Option SeenRsaKey) KeyError
key_in value = if is_object value then typed_key value else Err NoObject
