use Rattle.std.proofs.Common.{ap, ◌∙◌}
use Rattle.oidc_claims.specs.Additional.{are_additional}
use Rattle.oidc_id_token_claims.proofs.Homes.{additional_stay}
use Rattle.oidc_id_token_claims.proofs.additional.read_additional.Goals as goal

pub read-requires : goal.read-requires
read-requires g c = ap are_additional (c.as_slice.ensures.value ∙ c.in_ok-copies.ensures.copies) ∙ additional_stay c.args.members.now
