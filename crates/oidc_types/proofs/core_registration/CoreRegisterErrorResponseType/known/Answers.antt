use Rattle.std.proofs.Common.{rules, sym}
use Rattle.oidc_types.specs.CoreRegistration.{register_error_text, register_errors}
use Rattle.oidc_types.proofs.Unknown.{none_found}
use Rattle.oidc_types.proofs.core_registration.CoreRegisterErrorResponseType.known.Goals as goal

pub returns-in_default : goal.returns-in_default
returns-in_default c = sym (none_found register_error_text register_errors c.args.text.now (search rules))
