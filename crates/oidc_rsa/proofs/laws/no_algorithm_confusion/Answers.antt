use Rattle.oidc_rsa.proofs.Confusion.{no_algorithm_confusion}
use Rattle.oidc_rsa.proofs.laws.no_algorithm_confusion.Goals as goal

pub returns : goal.returns
returns c = no_algorithm_confusion
