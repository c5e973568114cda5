-- One more answer, and the count of faults.
use Rattle.std.proofs.Common.{◌≡◌, suc, List, [], ◌∷◌, ◌++◌, None, Some, refl, ap}
use Rattle.oidc_oauth2.specs.Messages.{SeenResponse, SeenAnswer}
use Rattle.oidc_oauth2.specs.Recorded.{fault_count}

pub fault_more : (answers : List SeenAnswer) → fault_count (answers ++ None ∷ []) ≡ suc (fault_count answers)
unfolding fault_count
fault_more [] = refl
fault_more (None ∷ later) = ap suc (fault_more later)
fault_more (Some r ∷ later) = fault_more later

pub answer_more : (answers : List SeenAnswer) (response : SeenResponse) → fault_count (answers ++ Some response ∷ []) ≡ fault_count answers
unfolding fault_count
answer_more [] response = refl
answer_more (None ∷ later) response = ap suc (answer_more later response)
answer_more (Some r ∷ later) response = answer_more later response
