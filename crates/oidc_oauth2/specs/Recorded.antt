-- A transport in memory as contracts see it.
use Rattle.std.specs.Prelude.{ℕ, suc, List, [], ◌∷◌, map, Option, None, Some, refl}
use Rattle.std.specs.Coded.{Coded, code_by, coded_list, coded_option, coded×}
use Rattle.oidc_oauth2.specs.Messages.{SeenRequest, SeenAnswer, seen_response, seen_request_code, seen_response_code}
use Rattle.oidc_oauth2.specs.declared.recorded.Answer.{Answer}
use Rattle.oidc_oauth2.specs.declared.recorded.Answer.TheVariants.{Response, Fault}

-- the requests that were handed over, the answers that were given, and those that are left
pub record SeenRecorded : Type 0 where
  pub requests : List SeenRequest
  pub given : List SeenAnswer
  pub left : List SeenAnswer

abbrev pub seen_answer : Answer → SeenAnswer
seen_answer (Response r) = Some (seen_response r)
seen_answer Fault = None

-- the answers that are left: the next one, and those behind it
abbrev pub left_of : Option Answer → List Answer → List SeenAnswer
left_of None later = []
left_of (Some answer) later = seen_answer answer ∷ map seen_answer later

-- how many of the answers are faults
unfoldable pub fault_count : List SeenAnswer → ℕ
fault_count [] = 0
fault_count (None ∷ later) = suc (fault_count later)
fault_count (Some response ∷ later) = fault_count later

abbrev pub seen_recorded_code : Coded SeenRecorded
seen_recorded_code =
    code_by (List SeenRequest × (List SeenAnswer × List SeenAnswer))
    (coded× (coded_list seen_request_code) (coded× (coded_list (coded_option seen_response_code)) (coded_list (coded_option seen_response_code))))
    (λ r. (r.requests, (r.given, r.left))) (λ p. record { requests = p.0; given = p.1.0; left = p.1.1 }) (λ _. refl)
