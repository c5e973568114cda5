use Rattle.oidc_oauth2.proofs.Theorems.{answer_by_success}
use Rattle.oidc_oauth2_requests.proofs.laws.records_are_judged_so.Goals as goal

pub returns : goal.returns
returns g c = λ error_of read_of r. answer_by_success error_of read_of r
