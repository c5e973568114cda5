use Rattle.std.proofs.Common.{ℕ, List, Ok, sym, ap, ◌∙◌}
use Rattle.oidc_oauth2.specs.Messages.{seen_response}
use Rattle.oidc_discovery.specs.Answers as spec
use Rattle.oidc_discovery.proofs.Judged.{body_found, judged_error}
use Rattle.oidc_discovery.proofs.requests.KeySetRequest.answer.Goals as goal

pub returns-clause-caused : goal.returns-clause-caused
returns-clause-caused c = λ meant.
    judged_error (spec.IsAsMeant meant) _ c.as_slice.result.now _
    (body_found spec.key_set_types (seen_response c.args.response) _ _
    c.may_be_key_set-is_of_type.ensures c.in_ok-body.ensures
    ∙ ap (λ (text : List ℕ). Ok text) (sym c.as_slice.ensures.bytes))
    (c.in-Err.ensures.caused meant)
