use Rattle.std.proofs.Common.{rules, subst}
use Rattle.oidc_members.specs.Answers.{Answers}
use Rattle.oidc_oauth2.specs.Messages.{seen_response}
use Rattle.oidc_oauth2.proofs.AnswerSteps.{record_refused, record_read}
use Rattle.oidc_oauth2.proofs.token_answers.judge.Goals as goal

pub returns-in_err-members : goal.returns-in_err-members
returns-in_err-members g c =
    record_refused g.TE.ErrorResponse.read_of (g.TR.OAuth2TokenResponse.read_of c.args.reading) (seen_response c.args.response) _ _ (search rules) c.in_err-members.ensures.object

pub returns : goal.returns
returns g c =
    let read = subst (λ members. Answers (g.TR.OAuth2TokenResponse.read_of members.reading members.list) c.read.result) c.with_reading-members.ensures c.read.ensures.response in
    record_read g.TE.ErrorResponse.read_of (g.TR.OAuth2TokenResponse.read_of c.args.reading) (seen_response c.args.response) _ _ c.in_ok-members.ensures.object (c.record_or_refusal.ensures.record _ read)
