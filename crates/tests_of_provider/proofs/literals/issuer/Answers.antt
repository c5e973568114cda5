use Rattle.tests_of_provider.proofs.Addresses.{issuer_reads}
use Rattle.tests_of_provider.proofs.literals.issuer.Goals as goal

pub address-requires : goal.address-requires
address-requires c = issuer_reads
