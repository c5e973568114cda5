use Rattle.std.proofs.Common.{rules}
use Rattle.oidc_oauth2.proofs.Bearers.{bearer_is_value}
use Rattle.oidc_oauth2.proofs.http_utils.auth_bearer.Goals as goal

pub value_of-requires : goal.value_of-requires
value_of-requires c = rw c.in_ok-text.ensures (bearer_is_value c.secret-2.result.now (search rules))
