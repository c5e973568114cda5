use Rattle.std.proofs.Common.{◌≡◌, IfOk, subst, ◌∙◌}
use Rattle.oidc_cli.specs.Drill.{drill_client}
use Rattle.oidc_cli.specs.Types.{SeenScriptClient}
use Rattle.oidc_cli.proofs.drill.drill.Goals as goal

pub run_on-drilled-requires : goal.run_on-drilled-requires
run_on-drilled-requires c = record {
  own = subst (λ r. IfOk r (λ (client : SeenScriptClient). client ≡ drill_client)) c.in_ok-both.ensures.second c.client.ensures;
  issuer = c.in_ok-both.ensures.first ∙ c.in_ok-issuer.ensures;
}
