use Rattle.std.proofs.Common.{All, filter, take}
use Rattle.oidc_key_sets.specs.SigningKeys.{AreSaidKeys, IsAllowed, checks_signatures}
use Rattle.oidc_key_sets.proofs.key_set.PublishedKeySet.signing_keys.Given as goal

-- the keys of those that came, all of which are allowed
abbrev pub invariant-loop-place : goal.invariant-loop-place
invariant-loop-place l = record {
  keys : AreSaidKeys (filter checks_signatures (take l.place l.set)) l.keys.items;
  allowed : All IsAllowed (filter checks_signatures (take l.place l.set));
}
