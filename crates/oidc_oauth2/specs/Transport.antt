-- What contracts say of a transport: what went over it, what it promises, and how often it failed.
use Rattle.std.specs.Prelude.{◌≡◌, ◌⊎◌, ℕ, zero, suc, ◌-◌, ◌^◌, ◌<◌, List, [], ◌∷◌, ◌++◌, length, drop, Option, None, Some, Result, Ok, Err}
use Rattle.http.specs.declared.response.Response.{Response}
use Rattle.oidc_oauth2.specs.Messages.{SeenRequest, SeenAnswer, seen_response}
use Rattle.oidc_oauth2.specs.declared.transport.CallError.{CallError}
use Rattle.oidc_oauth2.specs.declared.transport.CallError.TheVariants.{Transport, Memory}

-- the requests that were handed over, faulted ones too, and the answers that were given
pub record Log : Type 0 where
  pub requests : List SeenRequest
  pub answers : List SeenAnswer

-- the log behind further requests and answers, where there is one
abbrev pub log_after : Option Log → List SeenRequest → List SeenAnswer → Option Log
log_after None requests answers = None
log_after (Some log) requests answers =
    Some (record { requests = log.requests ++ requests; answers = log.answers ++ answers })

abbrev pub CallResult : Type 0 → Type 0
CallResult E = Result (Response (List ℕ)) (CallError E)

-- A call hands over its request and gives one answer; for want of memory it does neither.
abbrev pub IsLogged : {E : Type 0} → Option Log → Option Log → SeenRequest → CallResult E → Type 0
IsLogged old new request (Ok response) = new ≡ log_after old (request ∷ []) (Some (seen_response response) ∷ [])
IsLogged old new request (Err (Transport e)) = new ≡ log_after old (request ∷ []) (None ∷ [])
IsLogged old new request (Err Memory) = new ≡ old

-- ---- the answers of a list, one after another, and faults when it is at its end

-- the first answer, or a fault where there is none
abbrev pub first_answer : List SeenAnswer → SeenAnswer
first_answer [] = None
first_answer (answer ∷ later) = answer

abbrev pub played : List SeenAnswer → ℕ → List SeenAnswer
played script zero = []
played script (suc n) = first_answer script ∷ played (drop 1 script) n

-- What is answered to the requests to come, one after another: an answer may rest on its request, and on those before it.
abbrev pub Script : Type 0
Script = List SeenRequest → List SeenAnswer

-- the answers of a list to whatever requests, in their order
abbrev pub in_order : List SeenAnswer → Script
in_order answers requests = played answers (length requests)

-- Whatever requests come behind these, a script gives these answers, and then what is left of it gives.
pub record Leaves (script : Script) (requests : List SeenRequest) (answers : List SeenAnswer) (left : Script) : Type 0 where
  pub gives : (later : List SeenRequest) → script (requests ++ later) ≡ answers ++ left later

-- These requests got the answers of a script, and this is left of it. Without a script any may come.
abbrev pub Plays : Option Script → List SeenRequest → List SeenAnswer → Option Script → Type 0
Plays None requests answers left = left ≡ None
Plays (Some script) requests answers None = ⊥
Plays (Some script) requests answers (Some left) = Leaves script requests answers left

-- the request that a call handed over, where it did
abbrev pub requests_in : {E : Type 0} → SeenRequest → CallResult E → List SeenRequest
requests_in request (Ok response) = request ∷ []
requests_in request (Err (Transport e)) = request ∷ []
requests_in request (Err Memory) = []

-- the answer that a call gave, where it gave one
abbrev pub answers_in : {E : Type 0} → CallResult E → List SeenAnswer
answers_in (Ok response) = Some (seen_response response) ∷ []
answers_in (Err (Transport e)) = None ∷ []
answers_in (Err Memory) = []

-- ---- faults

-- a count has risen, or stands at the last value of 64 bits
abbrev pub HasRisen : ℕ → ℕ → Type 0
HasRisen before now = (before < now) ⊎ (now ≡ 2 ^ 64 - 1)

-- A fault comes only where the count has risen, or stands at its last value.
abbrev pub IsBlamed : {E : Type 0} → ℕ → ℕ → CallResult E → Type 0
IsBlamed before now (Err (Transport e)) = HasRisen before now
IsBlamed before now result = Unit {0}
