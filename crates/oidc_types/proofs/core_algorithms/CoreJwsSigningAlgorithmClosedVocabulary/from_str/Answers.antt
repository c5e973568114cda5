use Rattle.std.proofs.Common.{rules, sym}
use Rattle.oidc_types.specs.CoreAlgorithms.{signing_text, signing_algorithms}
use Rattle.oidc_types.proofs.Unknown.{none_found}
use Rattle.oidc_types.proofs.core_algorithms.CoreJwsSigningAlgorithmClosedVocabulary.from_str.Goals as goal

pub returns-in_default : goal.returns-in_default
returns-in_default c = record { word = sym (none_found signing_text signing_algorithms c.args.text.now (search rules)) }
