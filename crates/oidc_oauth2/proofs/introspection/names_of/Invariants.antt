use Rattle.std.proofs.Common.{◌≡◌}
use Rattle.oidc_oauth2.proofs.introspection.names_of.Given as goal

abbrev pub invariant-loop-text : goal.invariant-loop-text
invariant-loop-text l = l.names.items ≡ l.yielded
