use Rattle.oidc_readers.proofs.WrittenBack.{written_split_back}
use Rattle.oidc_readers.proofs.laws.written_objects_split_back.Goals as goal

pub returns : goal.returns
returns c = written_split_back
