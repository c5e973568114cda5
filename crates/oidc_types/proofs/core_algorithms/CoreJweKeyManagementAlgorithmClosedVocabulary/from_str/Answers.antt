use Rattle.std.proofs.Common.{rules, sym}
use Rattle.oidc_types.specs.CoreAlgorithms.{management_text, management_algorithms}
use Rattle.oidc_types.proofs.Unknown.{none_found}
use Rattle.oidc_types.proofs.core_algorithms.CoreJweKeyManagementAlgorithmClosedVocabulary.from_str.Goals as goal

pub returns-in_default : goal.returns-in_default
returns-in_default c = record { word = sym (none_found management_text management_algorithms c.args.text.now (search rules)) }
