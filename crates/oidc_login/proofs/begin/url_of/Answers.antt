use Rattle.oidc_login.proofs.Begun.{once_without}
use Rattle.oidc_login.proofs.begin.url_of.Goals as goal

pub returns-in-Ok-clause-once : goal.returns-in-Ok-clause-once
returns-in-Ok-clause-once c = once_without c.args.request c.args.challenge _ (rw c.set_pkce_challenge.ensures.set at c.in-Ok.ensures.once)
