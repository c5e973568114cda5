use Rattle.std.proofs.Common.{rules, sym}
use Rattle.oidc_oauth2.specs.Words.{revocation_error_text, revocation_errors}
use Rattle.oidc_types.proofs.Theorems.{none_found}
use Rattle.oidc_oauth2.proofs.error_types.RevocationErrorResponseType.known.Goals as goal

pub returns-in_default : goal.returns-in_default
returns-in_default c = sym (none_found revocation_error_text revocation_errors c.args.text.now (search rules))
