-- The operations and their names.
use Rattle.std.specs.Prelude.{ℕ, List, [], ◌∷◌, Option, codes, find}
use Rattle.std.specs.Str.{bytes_eq}
use Rattle.vectors_requests.specs.declared.operations.Operation.{Operation}
use Rattle.vectors_requests.specs.declared.operations.Operation.TheVariants.{RefreshRequest, PasswordRequest, ClientCredentialsRequest, DeviceTokenRequest, DeviceRequest, IntrospectionRequest, RevocationRequest, TokensAnswer, DeviceAnswer, IntrospectionAnswer, PollAnswer, RevocationAnswer}

-- the name of an operation, the value of `op`
abbrev pub operation_name : Operation → List ℕ
operation_name RefreshRequest = codes "refresh_request"
operation_name PasswordRequest = codes "password_request"
operation_name ClientCredentialsRequest = codes "client_credentials_request"
operation_name DeviceTokenRequest = codes "device_token_request"
operation_name DeviceRequest = codes "device_request"
operation_name IntrospectionRequest = codes "introspection_request"
operation_name RevocationRequest = codes "revocation_request"
operation_name TokensAnswer = codes "tokens_answer"
operation_name DeviceAnswer = codes "device_answer"
operation_name IntrospectionAnswer = codes "introspection_answer"
operation_name PollAnswer = codes "poll_answer"
operation_name RevocationAnswer = codes "revocation_answer"

-- all operations
abbrev pub operations : List Operation
operations =
    RefreshRequest ∷ PasswordRequest ∷ ClientCredentialsRequest ∷ DeviceTokenRequest ∷ DeviceRequest ∷ IntrospectionRequest ∷ RevocationRequest ∷ TokensAnswer ∷ DeviceAnswer ∷ IntrospectionAnswer ∷ PollAnswer ∷ RevocationAnswer ∷ []

-- the operation of that name
abbrev pub operation_of : List ℕ → Option Operation
operation_of name = find (λ operation. bytes_eq (operation_name operation) name) operations
