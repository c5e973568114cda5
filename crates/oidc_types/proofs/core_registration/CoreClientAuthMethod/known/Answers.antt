use Rattle.std.proofs.Common.{rules, sym}
use Rattle.oidc_types.specs.CoreRegistration.{auth_method_text, auth_methods}
use Rattle.oidc_types.proofs.Unknown.{none_found}
use Rattle.oidc_types.proofs.core_registration.CoreClientAuthMethod.known.Goals as goal

pub returns-in_default : goal.returns-in_default
returns-in_default c = sym (none_found auth_method_text auth_methods c.args.text.now (search rules))
