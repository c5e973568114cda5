-- The operations and their names.
use Rattle.std.specs.Prelude.{ℕ, List, [], ◌∷◌, Option, codes, find}
use Rattle.std.specs.Str.{bytes_eq}
use Rattle.vectors_provider.specs.declared.operations.Operation.{Operation}
use Rattle.vectors_provider.specs.declared.operations.Operation.TheVariants.{Provider, ProviderLogins, Display}

-- the name of an operation, the value of `op`
abbrev pub operation_name : Operation → List ℕ
operation_name Provider = codes "provider"
operation_name ProviderLogins = codes "provider_logins"
operation_name Display = codes "display"

-- all operations
abbrev pub operations : List Operation
operations = Provider ∷ ProviderLogins ∷ Display ∷ []

-- the operation of that name
abbrev pub operation_of : List ℕ → Option Operation
operation_of name = find (λ operation. bytes_eq (operation_name operation) name) operations
