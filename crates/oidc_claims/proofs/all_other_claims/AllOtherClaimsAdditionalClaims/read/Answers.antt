use Rattle.std.proofs.Common.{ap, ◌∙◌, Ok}
use Rattle.oidc_claims.specs.Additional.{are_written_additional}
use Rattle.oidc_claims.proofs.Homes.{outs_are_additional}
use Rattle.oidc_claims.proofs.Kept.{others_of-any}
use Rattle.oidc_claims.proofs.all_other_claims.AllOtherClaimsAdditionalClaims.read.Goals as goal

pub invariant_of-result : goal.invariant_of-result
invariant_of-result c = (ap are_written_additional c.in-Ok.ensures ∙ outs_are_additional c.args.members.now ∙ c.requires, tt)

pub returns-in-Ok : goal.returns-in-Ok
returns-in-Ok c = record { answer = ap Ok (others_of-any _ _ c.in-Ok.ensures) }
