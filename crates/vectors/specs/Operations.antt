-- The operations and their names.
use Rattle.std.specs.Prelude.{ℕ, List, [], ◌∷◌, Option, codes, find}
use Rattle.std.specs.Str.{bytes_eq}
use Rattle.vectors.specs.declared.operations.Operation.{Operation}
use Rattle.vectors.specs.declared.operations.Operation.TheVariants.{Pairs, Members, Standard, Url, Join, Word, Localized, Random, Hmac, Verdict, Digest, Challenge, Display, TokenResponse, ErrorResponse, DeviceError, RevocationError, DeviceResponse, Introspection, TokenType, Essence, Bearer, CodeRequest, TokenAnswer}

-- the name of an operation, the value of `op`
abbrev pub operation_name : Operation → List ℕ
operation_name Pairs = codes "pairs"
operation_name Members = codes "members"
operation_name Standard = codes "standard"
operation_name Url = codes "url"
operation_name Join = codes "join"
operation_name Word = codes "word"
operation_name Localized = codes "localized"
operation_name Random = codes "random"
operation_name Hmac = codes "hmac"
operation_name Verdict = codes "verdict"
operation_name Digest = codes "digest"
operation_name Challenge = codes "challenge"
operation_name Display = codes "display"
operation_name TokenResponse = codes "token_response"
operation_name ErrorResponse = codes "error_response"
operation_name DeviceError = codes "device_error"
operation_name RevocationError = codes "revocation_error"
operation_name DeviceResponse = codes "device_response"
operation_name Introspection = codes "introspection"
operation_name TokenType = codes "token_type"
operation_name Essence = codes "essence"
operation_name Bearer = codes "bearer"
operation_name CodeRequest = codes "code_request"
operation_name TokenAnswer = codes "token_answer"

-- all operations
abbrev pub operations : List Operation
operations = Pairs ∷ Members ∷ Standard ∷ Url ∷ Join ∷ Word ∷ Localized ∷ Random ∷ Hmac ∷ Verdict ∷ Digest ∷ Challenge ∷ Display ∷ TokenResponse
    ∷ ErrorResponse ∷ DeviceError ∷ RevocationError ∷ DeviceResponse ∷ Introspection ∷ TokenType ∷ Essence ∷ Bearer ∷ CodeRequest ∷ TokenAnswer ∷ []

-- the operation of that name
abbrev pub operation_of : List ℕ → Option Operation
operation_of name = find (λ operation. bytes_eq (operation_name operation) name) operations
