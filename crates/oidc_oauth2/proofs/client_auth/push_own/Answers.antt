use Rattle.std.proofs.Common.{ap}
use Rattle.std.specs.Prelude.{codes}
use Rattle.oidc_oauth2.specs.ClientAuth.{pair_if}
use Rattle.oidc_oauth2.proofs.PairLists.{one_and_others}
use Rattle.oidc_oauth2.proofs.client_auth.push_own.Goals as goal

pub returns : goal.returns
returns c = rw (← c.as_str.ensures.text) (one_and_others _ _ _ _ _ _ _ c.in_ok-push.ensures.ok (ap (pair_if (codes "client_secret")) c.text_of.ensures) c.push_optional.ensures.added)
