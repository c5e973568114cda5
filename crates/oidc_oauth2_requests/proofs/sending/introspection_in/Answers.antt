use Rattle.std.proofs.Common.{rules, subst}
use Rattle.oidc_members.specs.Answers.{Answers}
use Rattle.oidc_members.specs.Seen.{strict}
use Rattle.oidc_oauth2.specs.Messages.{seen_response}
use Rattle.oidc_oauth2.proofs.Theorems.{record_refused, record_read}
use Rattle.oidc_oauth2_requests.proofs.sending.introspection_in.Goals as goal

pub returns-in_err-members : goal.returns-in_err-members
returns-in_err-members g c =
    record_refused g.TE.ErrorResponse.read_of (g.TIR.TokenIntrospectionResponse.read_of strict) (seen_response c.args.response) _ _ (search rules) c.in_err-members.ensures.object

pub returns : goal.returns
returns g c =
    let read = subst (λ reading. Answers (g.TIR.TokenIntrospectionResponse.read_of reading c.in_ok-members.members.list) c.read.result) c.in_ok-members.ensures.strict c.read.ensures.response in
    record_read g.TE.ErrorResponse.read_of (g.TIR.TokenIntrospectionResponse.read_of strict) (seen_response c.args.response) _ _ c.in_ok-members.ensures.object (c.record_or_refusal.ensures.record _ read)
