use Rattle.std.proofs.Common.{rules, sym}
use Rattle.oidc_types.specs.CoreRegistration.{grant_type_text, grant_types}
use Rattle.oidc_types.proofs.Unknown.{none_found}
use Rattle.oidc_types.proofs.core_registration.CoreGrantType.known.Goals as goal

pub returns-in_default : goal.returns-in_default
returns-in_default c = sym (none_found grant_type_text grant_types c.args.text.now (search rules))
