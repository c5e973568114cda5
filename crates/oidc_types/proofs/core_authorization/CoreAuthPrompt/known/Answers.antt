use Rattle.std.proofs.Common.{rules, sym}
use Rattle.oidc_types.specs.CoreAuthorization.{auth_prompt_text, auth_prompts}
use Rattle.oidc_types.proofs.Unknown.{none_found}
use Rattle.oidc_types.proofs.core_authorization.CoreAuthPrompt.known.Goals as goal

pub returns-in_default : goal.returns-in_default
returns-in_default c = sym (none_found auth_prompt_text auth_prompts c.args.text.now (search rules))
