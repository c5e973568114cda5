use Rattle.std.proofs.Common.{rules, sym}
use Rattle.oidc_types.specs.CoreAuthorization.{response_mode_text, response_modes}
use Rattle.oidc_types.proofs.Unknown.{none_found}
use Rattle.oidc_types.proofs.core_authorization.CoreResponseMode.known.Goals as goal

pub returns-in_default : goal.returns-in_default
returns-in_default c = sym (none_found response_mode_text response_modes c.args.text.now (search rules))
