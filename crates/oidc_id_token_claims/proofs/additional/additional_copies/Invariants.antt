use Rattle.std.proofs.Common.{◌≡◌, take, map}
use Rattle.oidc_id_token_claims.specs.IdTokenClaims.{additional_among}
use Rattle.oidc_id_token_claims.proofs.additional.additional_copies.Given as goal

abbrev pub invariant-loop-member : goal.invariant-loop-member
invariant-loop-member l = l.copies.items ≡ additional_among (map (λ field. field.now) l.token_fields) (take l.member-index l.members)
