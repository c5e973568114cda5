use Rattle.std.proofs.Common.{rules, sym}
use Rattle.oidc_types.specs.CoreAuthorization.{auth_error_text, auth_errors}
use Rattle.oidc_types.proofs.Unknown.{none_found}
use Rattle.oidc_types.proofs.core_authorization.CoreAuthErrorResponseType.known.Goals as goal

pub returns-in_default : goal.returns-in_default
returns-in_default c = sym (none_found auth_error_text auth_errors c.args.text.now (search rules))
