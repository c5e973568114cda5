use Rattle.std.proofs.Common.{rules, sym}
use Rattle.oidc_types.proofs.Theorems.{none_found}
use Rattle.oidc_key_sets.specs.SigningKeys.{operation_text, all_operations}
use Rattle.oidc_key_sets.proofs.signing_keys.operation_named.Goals as goal

pub returns-in_default : goal.returns-in_default
returns-in_default c = sym (none_found operation_text all_operations c.args.text.now (search rules))
