use Rattle.oidc_oauth2.proofs.AnswerRows.{ran}
use Rattle.oidc_oauth2.proofs.requests.CodeTokenRequest.request.Goals as goal

pub returns-clause-ran : goal.returns-clause-ran
returns-clause-ran g c =
    ran g.TE.ErrorResponse.read_of (g.TR.OAuth2TokenResponse.read_of c.args.self.reading) _ _ _ _ c.exchange.ensures.follows
