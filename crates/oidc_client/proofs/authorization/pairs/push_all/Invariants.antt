use Rattle.std.proofs.Common.{◌≡◌, ◌++◌, map, take}
use Rattle.std.specs.String.{string_bytes}
use Rattle.oidc_client.proofs.authorization.pairs.push_all.Given as goal

abbrev pub invariant-loop-name : goal.invariant-loop-name
invariant-loop-name l = l.pairs ≡ l.initial.pairs ++ map (λ p. (string_bytes p.0, string_bytes p.1)) (take l.name-index l.list)
