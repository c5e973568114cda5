use Rattle.std.proofs.Common.{◌≡◌, ◌++◌, ◌∷◌, drop, string_bytes}
use Rattle.std.specs.List.{flat_map}
use Rattle.oidc_oauth2.specs.TokenResponse.{joined}
use Rattle.oidc_oauth2.proofs.scopes.joined_scopes.Given as goal

abbrev pub invariant-loop-scope : goal.invariant-loop-scope
invariant-loop-scope l = string_bytes l.text ++ flat_map (λ next. 32 ∷ next) (drop l.scope-index l.later) ≡ joined l.scopes
