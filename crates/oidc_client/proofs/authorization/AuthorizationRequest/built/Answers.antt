use Rattle.std.proofs.Common.{All, subst}
use Rattle.oidc_pairs.specs.Pairs.{IsTextPair}
use Rattle.oidc_client.proofs.Pushed.{if_ok}
use Rattle.oidc_client.proofs.authorization.AuthorizationRequest.built.Goals as goal

pub returns-clause-texts : goal.returns-clause-texts
returns-clause-texts g c = if_ok c.extend.result _ (subst (All IsTextPair) c.in_ok-pairs.ensures c.extend.ensures.texts)
