use Rattle.oidc_readers.proofs.JsonValues.{json_value}
use Rattle.oidc_readers.proofs.ReadBack.{value_back}
use Rattle.oidc_readers.proofs.laws.written_values_read_back.Goals as goal

pub returns : goal.returns
returns c = λ value stands texts. value_back value (json_value value stands.0 texts) stands.1
