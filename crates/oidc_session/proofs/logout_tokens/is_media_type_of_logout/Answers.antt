use Rattle.std.proofs.Common.{◌∙◌}
use Rattle.oidc_session.proofs.TypesOfLogouts.{logout_types}
use Rattle.oidc_session.proofs.logout_tokens.is_media_type_of_logout.Goals as goal

pub returns : goal.returns
returns c = c.is_among.ensures ∙ logout_types c.args.typ.now
