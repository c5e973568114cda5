use Rattle.std.proofs.Common.{◌≡◌, map, take}
use Rattle.oidc_oauth2.proofs.scopes.scopes_in.Given as goal

abbrev pub invariant-loop-piece : goal.invariant-loop-piece
invariant-loop-piece l = l.scopes.items ≡ map (λ piece. piece.now) (take l.piece-index l.piece-items)
