use Rattle.std.proofs.Common.{rules, sym}
use Rattle.oidc_types.specs.CoreRegistration.{subject_type_text, subject_types}
use Rattle.oidc_types.proofs.Unknown.{none_found}
use Rattle.oidc_types.proofs.core_registration.CoreSubjectIdentifierType.known.Goals as goal

pub returns-in_default : goal.returns-in_default
returns-in_default c = sym (none_found subject_type_text subject_types c.args.text.now (search rules))
