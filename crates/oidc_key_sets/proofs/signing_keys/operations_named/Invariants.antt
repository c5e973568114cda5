use Rattle.std.proofs.Common.{◌≡◌, take}
use Rattle.oidc_key_sets.specs.SigningKeys.{operations_named}
use Rattle.oidc_key_sets.proofs.signing_keys.operations_named.Given as goal

abbrev pub invariant-loop-text : goal.invariant-loop-text
invariant-loop-text l = l.operations.items ≡ operations_named (take l.text-index l.texts)
