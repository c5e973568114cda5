use Rattle.std.proofs.Common.{rules, sym}
use Rattle.oidc_types.specs.CoreAuthorization.{auth_display_text, auth_displays}
use Rattle.oidc_types.proofs.Unknown.{none_found}
use Rattle.oidc_types.proofs.core_authorization.CoreAuthDisplay.known.Goals as goal

pub returns-in_default : goal.returns-in_default
returns-in_default c = sym (none_found auth_display_text auth_displays c.args.text.now (search rules))
