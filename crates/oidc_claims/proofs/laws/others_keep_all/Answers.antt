use Rattle.oidc_claims.proofs.Kept.{all_kept}
use Rattle.oidc_claims.proofs.laws.others_keep_all.Goals as goal

pub returns : goal.returns
returns c = all_kept
