use Rattle.std.proofs.Common.{◌∙◌}
use Rattle.oidc_tokens.proofs.TokenTypes.{token_types}
use Rattle.oidc_tokens.proofs.verification.is_media_type_of_token.Goals as goal

pub returns : goal.returns
returns c = c.is_among.ensures ∙ token_types c.args.typ.now
