-- The operations and their names.
use Rattle.std.specs.Prelude.{ℕ, List, [], ◌∷◌, Option, codes, find}
use Rattle.std.specs.Str.{bytes_eq}
use Rattle.vectors_tokens.specs.declared.operations.Operation.{Operation}
use Rattle.vectors_tokens.specs.declared.operations.Operation.TheVariants.{Display, TokenResponse, TokenAnswer, Header, IdClaims, IdToken, Verify, VerifyRefreshed, Hash, Issue, InfoClaims, InfoRequest, InfoAnswer, InfoIssue, Authorize, Logout}

-- the name of an operation, the value of `op`
abbrev pub operation_name : Operation → List ℕ
operation_name Display = codes "display"
operation_name TokenResponse = codes "token_response"
operation_name TokenAnswer = codes "token_answer"
operation_name Header = codes "header"
operation_name IdClaims = codes "id_claims"
operation_name IdToken = codes "token"
operation_name Verify = codes "verify"
operation_name VerifyRefreshed = codes "verify_refreshed"
operation_name Hash = codes "hash"
operation_name Issue = codes "issue"
operation_name InfoClaims = codes "info_claims"
operation_name InfoRequest = codes "info_request"
operation_name InfoAnswer = codes "info_answer"
operation_name InfoIssue = codes "info_issue"
operation_name Authorize = codes "authorize"
operation_name Logout = codes "logout"

-- all operations
abbrev pub operations : List Operation
operations = Display ∷ TokenResponse ∷ TokenAnswer ∷ Header ∷ IdClaims ∷ IdToken ∷ Verify ∷ VerifyRefreshed ∷ Hash ∷ Issue ∷ InfoClaims ∷ InfoRequest ∷ InfoAnswer ∷ InfoIssue ∷ Authorize ∷ Logout ∷ []

-- the operation of that name
abbrev pub operation_of : List ℕ → Option Operation
operation_of name = find (λ operation. bytes_eq (operation_name operation) name) operations
