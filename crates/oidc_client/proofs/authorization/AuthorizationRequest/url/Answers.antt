use Rattle.std.proofs.Common.{sym, subst}
use Rattle.oidc_client.specs.Authorization.{HasChallenge, StandOnce}
use Rattle.oidc_client.proofs.StandOnce.{has_challenge, stand_once}
use Rattle.oidc_client.proofs.Pushed.{if_some}
use Rattle.oidc_client.proofs.authorization.AuthorizationRequest.url.Goals as goal

pub returns-clause-challenge : goal.returns-clause-challenge
returns-clause-challenge g c =
    if_some c.args.self.challenge _ (λ challenge is. subst (HasChallenge challenge) (sym c.in_ok-url.ensures.url.0)
    (has_challenge g.AD.Vocabulary.as_ref g.P.Vocabulary.as_ref g.RT.Vocabulary.as_ref c.args.self c.in_ok-url.ensures.texts challenge is))

pub returns-clause-once : goal.returns-clause-once
returns-clause-once g c =
    λ unmanaged. subst (StandOnce c.args.self) (sym c.in_ok-url.ensures.url.0)
    (stand_once g.AD.Vocabulary.as_ref g.P.Vocabulary.as_ref g.RT.Vocabulary.as_ref c.args.self c.in_ok-url.ensures.texts unmanaged)
