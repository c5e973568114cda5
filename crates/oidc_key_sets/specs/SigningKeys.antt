-- The keys that check signatures, of a set as it is published (RFC 7517 sections 4.2 to 4.5).
use Rattle.std.specs.Prelude.{◌≡◌, ⊤, ℕ, List, [], ◌∷◌, take, slice_get, All, Bool, true, ◌&&◌, codes, filter, filter_map, Option, None, Some, option_map, option_and_then, if◌then◌else◌}
use Rattle.std.specs.List.{list_any}
use Rattle.std.specs.Str.{bytes_eq}
use Rattle.oidc_types.specs.{find_word, signing_text, signing_algorithms}
use Rattle.oidc_types.specs.declared.core_algorithms.CoreJwsSigningAlgorithm.{CoreJwsSigningAlgorithm}
use Rattle.oidc_keys.specs.declared.core_jwk.CoreJsonWebKeyUse.{CoreJsonWebKeyUse}
use Rattle.oidc_keys.specs.declared.core_jwk.CoreJsonWebKeyUse.TheVariants.{Signature, Encryption, Other}
use Rattle.oidc_rsa.specs.declared.key_operation.KeyOperation.{KeyOperation}
use Rattle.oidc_rsa.specs.declared.key_operation.KeyOperation.TheVariants as operation
use Rattle.oidc_rsa.specs.Key.{PublicKey, IsModulus, IsExponent, IsKeyOf}
use Rattle.oidc_rsa.specs.ProviderKey.{SeenProviderKey, KeyMaterial, Rsa}
use Rattle.oidc_key_sets.specs.declared.errors.SigningKeyError.{SigningKeyError}
use Rattle.oidc_key_sets.specs.declared.errors.SigningKeyError.TheVariants.{Modulus, Exponent, Memory}
use Rattle.oidc_key_sets.specs.Keys.{SeenRsaKey}

-- ---- what a key says of itself

-- what a text says that a key is for (4.2)
abbrev pub purpose_named : List ℕ → CoreJsonWebKeyUse
purpose_named text =
    if bytes_eq text (codes "sig") then Signature
    else if bytes_eq text (codes "enc") then Encryption
    else Other text

abbrev pub operation_text : KeyOperation → List ℕ
operation_text operation.Sign = codes "sign"
operation_text operation.Verify = codes "verify"
operation_text operation.Encrypt = codes "encrypt"
operation_text operation.Decrypt = codes "decrypt"
operation_text operation.WrapKey = codes "wrapKey"
operation_text operation.UnwrapKey = codes "unwrapKey"
operation_text operation.DeriveKey = codes "deriveKey"
operation_text operation.DeriveBits = codes "deriveBits"

abbrev pub all_operations : List KeyOperation
all_operations =
    operation.Sign ∷ operation.Verify ∷ operation.Encrypt ∷ operation.Decrypt
    ∷ operation.WrapKey ∷ operation.UnwrapKey ∷ operation.DeriveKey ∷ operation.DeriveBits ∷ []

-- the operation of that name (4.3)
abbrev pub operation_named : List ℕ → Option KeyOperation
operation_named = find_word operation_text all_operations

-- the operations of those names; other names are left out
abbrev pub operations_named : List (List ℕ) → List KeyOperation
operations_named = filter_map operation_named

-- the algorithm that signs of that name (4.4)
abbrev pub algorithm_named : List ℕ → Option CoreJwsSigningAlgorithm
algorithm_named = find_word signing_text signing_algorithms

-- ---- which keys check signatures

-- its `use`, where it has one, is for signatures (4.2)
abbrev pub is_for_signatures : Option (List ℕ) → Bool
is_for_signatures None = true
is_for_signatures (Some text) = bytes_eq text (codes "sig")

-- `verify` is among its `key_ops`, where it has them (4.3)
abbrev pub has_verify : Option (List (List ℕ)) → Bool
has_verify None = true
has_verify (Some texts) = list_any (λ text. bytes_eq text (codes "verify")) texts

-- the algorithms of RSA that sign (RFC 7518 sections 3.3 and 3.5)
abbrev pub rsa_algorithms : List (List ℕ)
rsa_algorithms =
    codes "RS256" ∷ codes "RS384" ∷ codes "RS512" ∷ codes "PS256" ∷ codes "PS384" ∷ codes "PS512" ∷ []

-- its `alg`, where it has one, is one of these (4.4)
abbrev pub signs_by_rsa : Option (List ℕ) → Bool
signs_by_rsa None = true
signs_by_rsa (Some text) = list_any (bytes_eq text) rsa_algorithms

-- all three let it check signatures
abbrev pub checks_signatures : SeenRsaKey → Bool
checks_signatures said = is_for_signatures said.purpose && has_verify said.operations && signs_by_rsa said.algorithm

-- ---- the keys

-- a key of this material says of itself what the set says of it
pub record IsDescribed (said : SeenRsaKey) (material : KeyMaterial) (key : SeenProviderKey) : Type 0 where
  pub same : key.material ≡ material
  pub id : key.id ≡ said.id
  pub purpose : key.purpose ≡ option_map purpose_named said.purpose
  pub alg : key.alg ≡ option_and_then algorithm_named said.algorithm
  pub operations : key.operations ≡ option_map operations_named said.operations

-- the key that checks signatures is what the set says: a public key of its modulus and its exponent
pub record IsSaidKey (said : SeenRsaKey) (key : SeenProviderKey) : Type 0 where
  pub public : PublicKey
  pub of_numbers : IsKeyOf said.modulus said.exponent public
  pub described : IsDescribed said (Rsa public) key

-- one after another
abbrev pub AreSaidKeys : List SeenRsaKey → List SeenProviderKey → Type 0
AreSaidKeys [] [] = ⊤
AreSaidKeys [] (key ∷ keys) = ⊥
AreSaidKeys (said ∷ more) [] = ⊥
AreSaidKeys (said ∷ more) (key ∷ keys) = IsSaidKey said key × AreSaidKeys more keys

-- the keys that check signatures, of a set, in its order
abbrev pub AreSigningKeysOf : List SeenRsaKey → List SeenProviderKey → Type 0
AreSigningKeysOf set keys = AreSaidKeys (filter checks_signatures set) keys

-- a key that can be made: modulus and exponent are allowed
pub record IsAllowed (said : SeenRsaKey) : Type 0 where
  pub modulus : IsModulus said.modulus
  pub exponent : IsExponent said.exponent

-- the first key of a set that checks signatures and isn't allowed stands at this place, and is refused for this
pub record IsFirstRefused (set : List SeenRsaKey) (place : ℕ) (Why : SeenRsaKey → Type 0) : Type 0 where
  pub said : SeenRsaKey
  pub at_place : slice_get set place ≡ Some said
  pub checks : checks_signatures said ≡ true
  pub why : Why said
  pub before : All IsAllowed (filter checks_signatures (take place set))

-- the cause of a refusal
abbrev pub Cause : List SeenRsaKey → SigningKeyError → Type 0
Cause set (Modulus place) = IsFirstRefused set place (λ said. ¬ IsModulus said.modulus)
Cause set (Exponent place) = IsFirstRefused set place (λ said. IsModulus said.modulus × (¬ IsExponent said.exponent))
Cause set Memory = Unit {0}
