use Rattle.tests_of_provider.proofs.Addresses.{user_info_reads}
use Rattle.tests_of_provider.proofs.literals.user_info.Goals as goal

pub address-requires : goal.address-requires
address-requires c = user_info_reads
