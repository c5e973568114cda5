use Rattle.std.proofs.Common.{rules, sym}
use Rattle.oidc_types.specs.CoreAuthorization.{response_type_text, response_types}
use Rattle.oidc_types.proofs.Unknown.{none_found}
use Rattle.oidc_types.proofs.core_authorization.CoreResponseType.known.Goals as goal

pub returns-in_default : goal.returns-in_default
returns-in_default c = sym (none_found response_type_text response_types c.args.text.now (search rules))
