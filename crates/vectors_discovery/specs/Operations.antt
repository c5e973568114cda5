-- The operations and their names.
use Rattle.std.specs.Prelude.{ℕ, List, [], ◌∷◌, Option, codes, find}
use Rattle.std.specs.Str.{bytes_eq}
use Rattle.vectors_discovery.specs.declared.operations.Operation.{Operation}
use Rattle.vectors_discovery.specs.declared.operations.Operation.TheVariants.{KeySet, SigningKeys, WrittenKeySet, Metadata, Pinned, DocumentRequest, DocumentAnswer, KeySetRequest, KeySetAnswer}

-- the name of an operation, the value of `op`
abbrev pub operation_name : Operation → List ℕ
operation_name KeySet = codes "key_set"
operation_name SigningKeys = codes "signing_keys"
operation_name WrittenKeySet = codes "written_key_set"
operation_name Metadata = codes "metadata"
operation_name Pinned = codes "pinned"
operation_name DocumentRequest = codes "document_request"
operation_name DocumentAnswer = codes "document_answer"
operation_name KeySetRequest = codes "key_set_request"
operation_name KeySetAnswer = codes "key_set_answer"

-- all operations
abbrev pub operations : List Operation
operations =
    KeySet ∷ SigningKeys ∷ WrittenKeySet ∷ Metadata ∷ Pinned
    ∷ DocumentRequest ∷ DocumentAnswer ∷ KeySetRequest ∷ KeySetAnswer ∷ []

-- the operation of that name
abbrev pub operation_of : List ℕ → Option Operation
operation_of name = find (λ operation. bytes_eq (operation_name operation) name) operations
