use Rattle.oidc_discovery.proofs.Apart.{secret_and_keys_apart}
use Rattle.oidc_discovery.proofs.laws.secret_and_keys_apart.Goals as goal

pub returns : goal.returns
returns c = secret_and_keys_apart c.no_algorithm_confusion.ensures
