use Rattle.oidc_oauth2.proofs.Cuts.{essence_is}
use Rattle.oidc_oauth2.proofs.http_utils.essence.Goals as goal

pub returns : goal.returns
returns c = essence_is c.args.value.now c.before_parameters.result.now c.trim_ascii.result.now c.requires c.before_parameters.ensures c.trim_ascii.ensures.value
