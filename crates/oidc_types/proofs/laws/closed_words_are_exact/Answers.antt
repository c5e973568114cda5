use Rattle.std.proofs.Common.{rules}
use Rattle.oidc_types.specs.CoreAlgorithms.{key_type_text, key_types}
use Rattle.oidc_types.specs.CoreAlgorithms.{signing_text, signing_algorithms}
use Rattle.oidc_types.specs.CoreAlgorithms.{encryption_text, encryption_algorithms}
use Rattle.oidc_types.specs.CoreAlgorithms.{management_text, management_algorithms}
use Rattle.oidc_types.proofs.Unknown.{exact}
use Rattle.oidc_types.proofs.laws.closed_words_are_exact.Goals as goal

pub returns-clause-key_types : goal.returns-clause-key_types
returns-clause-key_types c = exact key_type_text key_types (λ w. search rules)

pub returns-clause-signing_algorithms : goal.returns-clause-signing_algorithms
returns-clause-signing_algorithms c = exact signing_text signing_algorithms (λ w. search rules)

pub returns-clause-encryption_algorithms : goal.returns-clause-encryption_algorithms
returns-clause-encryption_algorithms c = exact encryption_text encryption_algorithms (λ w. search rules)

pub returns-clause-management_algorithms : goal.returns-clause-management_algorithms
returns-clause-management_algorithms c = exact management_text management_algorithms (λ w. search rules)
