use Rattle.std.proofs.Common.{ap, ◌∙◌}
use Rattle.serde_json.specs.Data.{string}
use Rattle.oidc_claims.proofs.Parts.{put_one}
use Rattle.oidc_claims.proofs.write.insert_part.Goals as goal

pub returns-in_ok-insert-in-Some : goal.returns-in_ok-insert-in-Some
returns-in_ok-insert-in-Some g c =
    put_one _ _ c.in_ok-name-in-Some.name c.in_ok-value-in-Some.value _ _ _ c.in_ok-insert-in-Some.ensures.entries c.in_ok-name-in-Some.ensures.ok
    (c.in_ok-value-in-Some.ensures ∙ ap string c.as_str.ensures.text) c.in-Some.is
