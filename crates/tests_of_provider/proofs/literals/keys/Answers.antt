use Rattle.tests_of_provider.proofs.Addresses.{keys_reads}
use Rattle.tests_of_provider.proofs.literals.keys.Goals as goal

pub address-requires : goal.address-requires
address-requires c = keys_reads
