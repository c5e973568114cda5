use Rattle.std.proofs.Common.{rules}
use Rattle.oidc_client.proofs.Pushed.{three_pushed}
use Rattle.oidc_client.proofs.authorization.AuthorizationRequest.push_first.Goals as goal

pub returns : goal.returns
returns g c =
    three_pushed c.push-3.result c.args.pairs.now c.push.new.self c.push-2.new.self c.push-3.new.self _ _ _ _ _ c.in_ok-push.ensures.ok c.in_ok-push-2.ensures.ok (search rules) (search rules) c.push-3.ensures.ok
