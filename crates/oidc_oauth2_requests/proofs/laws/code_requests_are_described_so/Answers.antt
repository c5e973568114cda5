use Rattle.oidc_oauth2_requests.proofs.Described.{code_described}
use Rattle.oidc_oauth2_requests.proofs.laws.code_requests_are_described_so.Goals as goal

pub returns : goal.returns
returns c = code_described
