use Rattle.tests_of_provider.proofs.Addresses.{redirect_reads}
use Rattle.tests_of_provider.proofs.literals.redirect.Goals as goal

pub address-requires : goal.address-requires
address-requires c = redirect_reads
