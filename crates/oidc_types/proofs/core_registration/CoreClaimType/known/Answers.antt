use Rattle.std.proofs.Common.{rules, sym}
use Rattle.oidc_types.specs.CoreRegistration.{claim_type_text, claim_types}
use Rattle.oidc_types.proofs.Unknown.{none_found}
use Rattle.oidc_types.proofs.core_registration.CoreClaimType.known.Goals as goal

pub returns-in_default : goal.returns-in_default
returns-in_default c = sym (none_found claim_type_text claim_types c.args.text.now (search rules))
