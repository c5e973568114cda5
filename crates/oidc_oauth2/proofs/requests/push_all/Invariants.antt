use Rattle.std.proofs.Common.{◌≡◌, ◌++◌, map, take}
use Rattle.std.specs.String.{string_bytes}
use Rattle.oidc_oauth2.proofs.requests.push_all.Given as goal

abbrev pub invariant-loop-name : goal.invariant-loop-name
invariant-loop-name l = l.form ≡ l.initial.form ++ map (λ p. (string_bytes p.0, string_bytes p.1)) (take l.name-index l.pairs)
