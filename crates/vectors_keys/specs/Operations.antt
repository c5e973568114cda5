-- The operations and their names.
use Rattle.std.specs.Prelude.{ℕ, List, [], ◌∷◌, Option, codes, find}
use Rattle.std.specs.Str.{bytes_eq}
use Rattle.vectors_keys.specs.declared.operations.Operation.{Operation}
use Rattle.vectors_keys.specs.declared.operations.Operation.TheVariants.{Rsa, ProviderVerdict, ProviderKey, ProviderDigest}

-- the name of an operation, the value of `op`
abbrev pub operation_name : Operation → List ℕ
operation_name Rsa = codes "rsa"
operation_name ProviderVerdict = codes "provider_verdict"
operation_name ProviderKey = codes "provider_key"
operation_name ProviderDigest = codes "provider_digest"

-- all operations
abbrev pub operations : List Operation
operations = Rsa ∷ ProviderVerdict ∷ ProviderKey ∷ ProviderDigest ∷ []

-- the operation of that name
abbrev pub operation_of : List ℕ → Option Operation
operation_of name = find (λ operation. bytes_eq (operation_name operation) name) operations
