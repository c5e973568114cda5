use Rattle.std.proofs.Common.{◌≡◌, ◌++◌, map, take}
use Rattle.oidc_user_info.specs.QueryPairs.{given_pairs, named_value}
use Rattle.oidc_user_info.proofs.query_pairs.QueryPairs.push_each.Given as goal

abbrev pub invariant-loop-name : goal.invariant-loop-name
invariant-loop-name l = l.self ≡ l.initial.self ++ given_pairs (map named_value (take l.name-index l.list))
