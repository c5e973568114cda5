use Rattle.tests_of_provider.proofs.Addresses.{tokens_reads}
use Rattle.tests_of_provider.proofs.literals.tokens.Goals as goal

pub address-requires : goal.address-requires
address-requires c = tokens_reads
