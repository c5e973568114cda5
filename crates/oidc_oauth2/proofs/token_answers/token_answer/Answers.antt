use Rattle.oidc_oauth2.specs.Messages.{seen_response}
use Rattle.oidc_oauth2.proofs.AnswerRows.{because, refused-because}
use Rattle.oidc_oauth2.proofs.token_answers.token_answer.Goals as goal

pub returns-clause-cause : goal.returns-clause-cause
returns-clause-cause g c =
    because g.TE.ErrorResponse.read_of (g.TR.OAuth2TokenResponse.read_of c.args.reading) (seen_response c.args.response) c.judge.result c.judge.ensures

pub returns-clause-refused : goal.returns-clause-refused
returns-clause-refused g c =
    refused-because g.TE.ErrorResponse.read_of (g.TR.OAuth2TokenResponse.read_of c.args.reading) (seen_response c.args.response) c.judge.result c.judge.ensures
