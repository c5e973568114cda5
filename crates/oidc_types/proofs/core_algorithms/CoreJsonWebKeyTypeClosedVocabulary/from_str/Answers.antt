use Rattle.std.proofs.Common.{rules, sym}
use Rattle.oidc_types.specs.CoreAlgorithms.{key_type_text, key_types}
use Rattle.oidc_types.proofs.Unknown.{none_found}
use Rattle.oidc_types.proofs.core_algorithms.CoreJsonWebKeyTypeClosedVocabulary.from_str.Goals as goal

pub returns-in_default : goal.returns-in_default
returns-in_default c = record { word = sym (none_found key_type_text key_types c.args.text.now (search rules)) }
