use Rattle.std.proofs.Common.{◌≡◌, ◌++◌, All, drop}
use Rattle.oidc_key_sets.specs.Codes.{HasNumbers}
use Rattle.oidc_key_sets.proofs.writing.encoded_keys.Given as goal

abbrev pub invariant-loop-key : goal.invariant-loop-key
invariant-loop-key l = record {
  keys : l.keys ≡ l.encoded.items ++ drop l.key-index l.keys;
  numbers : All HasNumbers l.encoded.items;
}
