use Rattle.tests_of_provider.proofs.Addresses.{authorization_reads}
use Rattle.tests_of_provider.proofs.literals.authorization.Goals as goal

pub address-requires : goal.address-requires
address-requires c = authorization_reads
